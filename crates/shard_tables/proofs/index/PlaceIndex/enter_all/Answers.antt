use Rattle.std.proofs.Common.{◌≡◌, ℕ, [], ◌∷◌, ◌++◌, Option, None, IfNone, map, position, take, ap, ◌∙◌, subst}
use Rattle.session_values.specs.declared.value.Value.{Value}
use Rattle.shard_tables.specs.Keys.{is_under}
use Rattle.shard_tables.specs.Slots.{IsIndexOf}
use Rattle.shard_tables.proofs.Fronts.{different_front, not_before, front_more}
use Rattle.shard_tables.proofs.index.PlaceIndex.enter_all.Goals as goal

pub enter-requires-clause-different : goal.enter-requires-clause-different
enter-requires-clause-different g c = different_front g.T.Keyed.key_of c.loop-done.done c.args.items.now c.requires.different

pub loop-done-preserved : goal.loop-done-preserved
loop-done-preserved g c =
    let key_of = g.T.Keyed.key_of in
    let items = c.args.items.now in
    let done = c.loop-done.done in
    let x = c.index-items-done.result in
    let before = take done items in
    let now = c.enter.new.self in
    let none : c.enter.result ≡ None = c.enter.ensures.place ∙ ap (λ (k : Value). position (is_under key_of k) before) c.key.ensures ∙ not_before key_of items done x c.requires.different c.loop-done-test.true c.index-items-done.is in
    let P : Option ℕ → Type 0 = λ o. IfNone o (IsIndexOf (map key_of before ++ c.key.result ∷ []) now) in
    let Q : Value → Type 0 = λ k. IsIndexOf (map key_of before ++ k ∷ []) now in
    record {
      index = front_more key_of now.factor now.bits items now.slots done x c.loop-done-test.true c.index-items-done.is (subst Q c.key.ensures (subst P none c.enter.ensures.entered));
      bits = c.enter.ensures.bits ∙ c.loop-done.invariant.bits;
      factor = c.enter.ensures.factor ∙ c.loop-done.invariant.factor;
    }
