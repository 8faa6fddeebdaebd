use Rattle.std.proofs.Common.{◌≡◌, ℕ, suc, ◌+◌, refl, take, subst, arith}
use Rattle.std.proofs.lemmas.Bool.{both_ways}
use Rattle.symbolic_ops.specs.Matching.{Matches}
use Rattle.driven_tickets.proofs.Matched.{matched_at, still_unmatched}
use Rattle.driven_tickets.proofs.blocker.is_declared.Goals as goal

pub returns-then-matches : goal.returns-then-matches
returns-then-matches c = ((λ _. matched_at c.args.op.now c.args.list.now c.loop-s.s-index c.s-item.result c.loop-s-test.true c.s-item.is (c.matches.ensures.0 c.if-matches.true)), λ _. refl)

pub loop-s-preserved : goal.loop-s-preserved
loop-s-preserved c =
    let e : suc c.loop-s.s-index ≡ c.loop-s.s-index + 1 = omega arith in
    let P : ℕ → Type 0 = λ j. Matches (take j c.args.list.now) c.args.op.now → ⊥ in
    subst P e (still_unmatched c.args.op.now c.args.list.now c.loop-s.s-index c.s-item.result c.loop-s-test.true c.s-item.is c.loop-s.invariant (λ b. both_ways c.matches.result c.if-matches.false (c.matches.ensures.1 b)))
