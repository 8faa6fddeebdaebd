use Rattle.std.proofs.Common.{take}
use Rattle.may_use_analysis.specs.Vars.{AllCovered}
use Rattle.may_use_analysis.proofs.vars.Vars.of.Given as goal

abbrev pub invariant-loop-s : goal.invariant-loop-s
invariant-loop-s l = AllCovered l.vars.bits (take l.s-index l.list)
