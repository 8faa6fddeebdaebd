use Rattle.std.proofs.Common.{◌<◌, sym, subst, rules}
use Rattle.may_use_analysis.specs.Vars.{IsArgMarked}
use Rattle.may_use_analysis.proofs.VarLemmas.{set_here, set_still}
use Rattle.may_use_analysis.proofs.vars.Vars.with_arg.Goals as goal

pub returns-in-Var-clause-here : goal.returns-in-Var-clause-here
returns-in-Var-clause-here c =
    let lt : c.in-Var.x < 64 = search rules in
    subst (IsArgMarked _) (sym c.in-Var.is) (set_here c.args.self.bits c.in-Var.x lt)

pub returns-in-Var-clause-still : goal.returns-in-Var-clause-still
returns-in-Var-clause-still c = λ x m. set_still c.args.self.bits c.in-Var.x x m
