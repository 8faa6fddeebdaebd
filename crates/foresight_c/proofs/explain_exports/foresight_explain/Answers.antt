use Rattle.std.proofs.Common.{ℕ, List, inr, subst}
use Rattle.foresight_c.specs.Explaining.{ExplainsAs}
use Rattle.foresight_c.proofs.explain_exports.foresight_explain.Goals as goal

pub returns-in-Ok : goal.returns-in-Ok
returns-in-Ok c =
    let P : List ℕ → Type 0 = λ name. ExplainsAs c.in-Some.form name c.args.text.now c.args.refusal.now c.args.out.now c.explain_as.new.out c.explain_as.new.answer c.explain_as.result in
    inr (c.in-Some.form, c.in-Some.ensures, inr (c.in-Ok.ensures.cases.1, subst P c.in-Ok.ensures.cases.0 c.explain_as.ensures))
