use Rattle.std.proofs.Common.{◌≡◌, ℕ, length, subst, arith}
use Rattle.waiting_pairs.specs.Heads.{IsMostOf}
use Rattle.waiting_pairs.proofs.Heads.{most_more, no_most}
use Rattle.waiting_pairs.proofs.chains.most_of.Goals as goal

pub loop-step-init : goal.loop-step-init
loop-step-init c = no_most c.args.table.now

pub loop-step-preserved : goal.loop-step-preserved
loop-step-preserved c = most_more c.args.table.now c.loop-step.step-index c.loop-step.most c.larger-most.result _ c.loop-step-test.true c.larger-most.ensures c.loop-step.invariant

pub returns : goal.returns
returns c =
    let e : c.loop-step.step-index ≡ length c.args.table.now = omega arith in
    subst (λ (i : ℕ). IsMostOf c.args.table.now i c.loop-step.most) e c.loop-step.invariant
