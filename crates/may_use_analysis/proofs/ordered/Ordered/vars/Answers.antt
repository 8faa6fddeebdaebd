use Rattle.std.proofs.Common.{subst}
use Rattle.may_use_analysis.specs.Vars.{AllCovered}
use Rattle.may_use_analysis.proofs.ordered.Ordered.vars.Goals as goal

pub returns : goal.returns
returns c = subst (AllCovered c.self.inside.vars.bits) c.self.view_is c.self.invariant.1
