use Rattle.std.proofs.Common.{◌≡◌, ℕ, suc, ◌+◌, refl, take, subst, arith}
use Rattle.std.proofs.lemmas.Bool.{both_ways}
use Rattle.symbolic_ops.specs.Matching.{IsBelowSome}
use Rattle.symbolic_ops.proofs.BelowSome.{below_at, still_none}
use Rattle.symbolic_ops.proofs.covering.is_below_some.Goals as goal

pub returns-then-is_below : goal.returns-then-is_below
returns-then-is_below c = ((λ _. below_at c.args.s.now c.args.list.now c.loop-above.above-index c.above-item.result c.loop-above-test.true c.above-item.is (c.is_below.ensures.0 c.if-is_below.true)), λ _. refl)

pub loop-above-preserved : goal.loop-above-preserved
loop-above-preserved c =
    let e : suc c.loop-above.above-index ≡ c.loop-above.above-index + 1 = omega arith in
    let P : ℕ → Type 0 = λ j. IsBelowSome c.args.s.now (take j c.args.list.now) → ⊥ in
    subst P e (still_none c.args.s.now c.args.list.now c.loop-above.above-index c.above-item.result c.loop-above-test.true c.above-item.is c.loop-above.invariant (λ b. both_ways c.is_below.result c.if-is_below.false (c.is_below.ensures.1 b)))
