use Rattle.std.proofs.Common.{◌≤◌, length, take_all, subst, arith}
use Rattle.may_use_analysis.specs.Vars.{AllCovered}
use Rattle.may_use_analysis.proofs.VarLemmas.{covered_more}
use Rattle.may_use_analysis.proofs.vars.Vars.of.Goals as goal

pub loop-s-preserved : goal.loop-s-preserved
loop-s-preserved c =
    covered_more c.args.list.now c.loop-s.s-index c.s-item.result c.loop-s.vars.bits c.with_symbol-vars.result.bits c.loop-s-test.true c.s-item.is c.loop-s.invariant c.with_symbol-vars.ensures.still c.with_symbol-vars.ensures.here

pub returns : goal.returns
returns c =
    let whole : length c.args.list.now ≤ c.loop-s.s-index = omega arith in
    subst (AllCovered c.loop-s.vars.bits) (take_all c.loop-s.s-index c.args.list.now whole) c.loop-s.invariant
