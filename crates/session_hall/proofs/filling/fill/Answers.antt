use Rattle.std.proofs.Common.{◌≡◌, ◌+◌, ◌-◌, ◌<◌, ℕ, List, drop, slice_get, refl, sym, ap, ◌∙◌, arith}
use Rattle.session_journal.specs.Opening.{Pair, container_of, entries_of}
use Rattle.session_values.specs.Tables.{size_of}
use Rattle.shard_tables.specs.Parts.{part}
use Rattle.shard_tables.specs.Shards.{ShardView}
use Rattle.hall_rule.specs.Filling.{count_in}
use Rattle.shard_tables.specs.Either.{shard_view}
use Rattle.session_hall.proofs.Filled.{entered, fits_more, none_entered, passed}
use Rattle.session_hall.proofs.filling.fill.Goals as goal
use Rattle.session_hall.proofs.filling.fill.Goals.{then-shard_of-shard, else-shard_of-shard}

pub loop-done-init : goal.loop-done-init
loop-done-init g c =
    let es : List Pair = entries_of (g.S.Script.meaning c.args.script.now).opened c.args.table in
    record {
      container = none_entered c.args.shards c.args.shard c.args.kind es (c.opening_len-len.result - 0) _ c.requires.empty (omega (arith, c.opening_len-len.ensures));
      room = refl;
    }

pub apply-requires-clause-room : goal.apply-requires-clause-room
apply-requires-clause-room g c = λ adding absent.
    let es : List Pair = entries_of (g.S.Script.meaning c.args.script.now).opened c.args.table in
    let n : ℕ = c.opening_len-len.result - (c.loop-done.done + 1) in
    let before : c.opening_len-len.result - c.loop-done.done ≡ n + 1 = omega (arith, c.loop-done-test.true) in
    let here : c.opening_len-len.result - 1 - c.loop-done.done ≡ n = omega arith in
    let inv = c.loop-done.invariant in
    let small : size_of (shard_view c.loop-done.part).container < count_in c.args.shards c.args.shard es =
    fits_more c.args.shards c.args.shard c.args.kind es n _ (shard_view c.loop-done.part).container
    (inv.container ∙ ap (λ (i : ℕ). part c.args.shards c.args.shard (container_of c.args.kind (drop i es))) before)
    (ap (slice_get es) (sym here) ∙ c.opening_entry-key.ensures) (omega (arith, c.shard_of.ensures.shard, c.if-shard_of-shard.true)) in
    omega (arith, small, inv.room, c.requires.room)

pub loop-done-preserved : goal.loop-done-preserved
loop-done-preserved g c =
    let es : List Pair = entries_of (g.S.Script.meaning c.args.script.now).opened c.args.table in
    let n : ℕ = c.opening_len-len.result - (c.loop-done.done + 1) in
    let before : c.opening_len-len.result - c.loop-done.done ≡ n + 1 = omega (arith, c.loop-done-test.true) in
    let here : c.opening_len-len.result - 1 - c.loop-done.done ≡ n = omega arith in
    let inv = c.loop-done.invariant in
    let held : (shard_view c.loop-done.part).container ≡ part c.args.shards c.args.shard (container_of c.args.kind (drop (n + 1) es)) = inv.container ∙ ap (λ (i : ℕ). part c.args.shards c.args.shard (container_of c.args.kind (drop i es))) before in
    let at = ap (slice_get es) (sym here) ∙ c.opening_entry-key.ensures in
    elim c.if-shard_of-shard.branch [
      | then-shard_of-shard w ↦ record {
        container = ap (λ (p : _). (shard_view p).container) w.part-is ∙ ap (λ (s : ShardView). s.container) w.apply.ensures.after
            ∙ entered c.args.shards c.args.shard c.args.kind es n _ w.opening_op.result (shard_view c.loop-done.part).container held at (omega (arith, c.shard_of.ensures.shard, w.if-shard_of-shard.true)) w.opening_op.ensures.key w.opening_op.ensures.enters;
        room = ap (λ (p : _). (shard_view p).room) w.part-is ∙ ap (λ (s : ShardView). s.room) w.apply.ensures.after ∙ inv.room;
      }
      | else-shard_of-shard w ↦ record {
        container = ap (λ (p : _). (shard_view p).container) w.part-is ∙ held ∙ passed c.args.shards c.args.shard c.args.kind es n _ at (λ z. w.if-shard_of-shard.false (omega (arith, c.shard_of.ensures.shard, z)));
        room = ap (λ (p : _). (shard_view p).room) w.part-is ∙ inv.room;
      }
    ]

pub returns : goal.returns
returns g c =
    let es : List Pair = entries_of (g.S.Script.meaning c.args.script.now).opened c.args.table in
    let none : c.opening_len-len.result - c.loop-done.done ≡ 0 = omega (arith, c.loop-done-test.false) in
    let inv = c.loop-done.invariant in
    let held : (shard_view c.loop-done.part).container ≡ part c.args.shards c.args.shard (container_of c.args.kind es) = inv.container ∙ ap (λ (i : ℕ). part c.args.shards c.args.shard (container_of c.args.kind (drop i es))) none in
    (λ i. record { container = held i; room = inv.room i })
