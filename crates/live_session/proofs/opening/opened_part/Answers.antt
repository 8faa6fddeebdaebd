use Rattle.std.proofs.Common.{◌≡◌, ℕ, ◌+◌, ◌-◌, List, drop, slice_get, sym, ap, ◌∙◌, arith}
use Rattle.session_values.specs.Opening.{Pair, container_of, entries_of}
use Rattle.shard_tables.specs.Shards.{ShardView}
use Rattle.shard_tables.specs.Whole.{container_in}
use Rattle.shard_tables.proofs.Whole.{entered, none_entered}
use Rattle.live_session.proofs.opening.opened_part.Goals as goal

pub loop-done-init : goal.loop-done-init
loop-done-init c = record {
  entered = none_entered c.args.kind (entries_of c.args.opening.now c.args.table) (c.len-len.result - 0) _ (ap (λ (s : ShardView). s.container) c.in_ok-part.ensures.empty) (omega (arith, c.len-len.ensures));
  factor = c.in_ok-part.ensures.factor;
}

pub loop-done-preserved : goal.loop-done-preserved
loop-done-preserved c =
    let es : List Pair = entries_of c.args.opening.now c.args.table in
    let n : ℕ = c.len-len.result - (c.loop-done.done + 1) in
    let before : c.len-len.result - c.loop-done.done ≡ n + 1 = omega (arith, c.loop-done-test.true) in
    let here : c.len-len.result - 1 - c.loop-done.done ≡ n = omega arith in
    record {
      entered = ap (λ (s : ShardView). s.container) c.in_ok-enter.ensures.entered
          ∙ entered c.args.kind es n _ (container_in c.loop-done.part) (c.loop-done.invariant.entered ∙ ap (λ (i : ℕ). container_of c.args.kind (drop i es)) before)
          (ap (slice_get es) (sym here) ∙ c.entry-key.ensures);
      factor = c.enter.ensures.factor ∙ c.loop-done.invariant.factor;
    }

pub returns-clause-entered : goal.returns-clause-entered
returns-clause-entered c =
    let none : c.len-len.result - c.loop-done.done ≡ 0 = omega (arith, c.loop-done-test.false) in
    c.loop-done.invariant.entered ∙ ap (λ (i : ℕ). container_of c.args.kind (drop i (entries_of c.args.opening.now c.args.table))) none
