use Rattle.std.proofs.Common.{◌≡◌, ℕ, ◌+◌, ◌-◌, ◌∷◌, List, Some, drop, slice_get, sym, ap, subst, ◌∙◌, arith}
use Rattle.std.specs.List.{AllByRecursion}
use Rattle.std.specs.Option.{option_map}
use Rattle.std.proofs.lemmas.Option.{slice_get-map}
use Rattle.session_values.specs.Opening.{IsPair, Pair, container_of}
use Rattle.session_values.specs.Tables.{kind_of}
use Rattle.session_values.specs.Values.{IsValue}
use Rattle.shard_tables.specs.Either.{entries_in, with_entry}
use Rattle.shard_tables.specs.Shards.{ShardView}
use Rattle.shard_tables.specs.Whole.{container_in}
use Rattle.shard_tables.proofs.Whole.{drop_step, entered}
use Rattle.live_session.specs.Moving.{moved_entries, moved_pair, place_in}
use Rattle.live_session.proofs.renewing.moved_part.Goals as goal

pub loop-done-preserved : goal.loop-done-preserved
loop-done-preserved c =
    let f = place_in c.args.places.now in
    let kind = kind_of (container_in c.args.part.now) in
    let es : List Pair = moved_entries f (entries_in c.args.part.now) in
    let n : ℕ = c.len-len.result - (c.loop-done.done + 1) in
    let before : c.len-len.result - c.loop-done.done ≡ n + 1 = omega (arith, c.loop-done-test.true) in
    let here : c.len-len.result - 1 - c.loop-done.done ≡ n = omega arith in
    let e : Pair = moved_pair f c.entry-key.result in
    let at : slice_get es n ≡ Some e =
    slice_get-map (moved_pair f) (entries_in c.args.part.now) n ∙ ap (option_map (moved_pair f)) (ap (slice_get (entries_in c.args.part.now)) (sym here) ∙ c.entry-key.ensures) in
    let given : ◌≡◌ {A = Pair} (c.moved-key.result, c.moved-value.result) e = λ i. (c.moved-key.ensures i, c.moved-value.ensures i) in
    record {
      entered = ap (λ (s : ShardView). s.container) c.in_ok-enter.ensures.entered
          ∙ ap (λ (x : Pair). with_entry x (container_in c.loop-done.new)) given
          ∙ entered kind es n e (container_in c.loop-done.new) (c.loop-done.invariant.entered ∙ ap (λ (i : ℕ). container_of kind (drop i es)) before) at;
      pairs = subst (AllByRecursion IsPair) (sym (drop_step es n e at)) (
        subst IsPair given (c.bounds.ensures, c.bounds-in-loop-done.ensures),
        subst (λ (i : ℕ). AllByRecursion IsPair (drop i es)) before c.loop-done.invariant.pairs,
      );
      factor = c.enter.ensures.factor ∙ c.loop-done.invariant.factor;
    }
