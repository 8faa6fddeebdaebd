use Rattle.std.proofs.Common.{is_some, sym, ap, ◌∙◌}
use Rattle.refusal_places.specs.Refusals.{refusal_of}
use Rattle.refusal_places.proofs.Saying.{said_utf8, said_none}
use Rattle.foresight_where.specs.Chosen.{is_refusal}
use Rattle.foresight_where.proofs.choosing.is_refusal.Goals as goal

pub returns-in_default : goal.returns-in_default
unfolding is_refusal
returns-in_default c = sym (ap is_some (said_none c.args.line.now c.in_default.ensures.cases.0))

pub returns-in-Some : goal.returns-in-Some
unfolding is_refusal
returns-in-Some c =
    let utf8 = said_utf8 c.args.line.now c.in-Ok.ensures.cases.1 in
    sym (ap is_some utf8 ∙ ap (λ t. is_some (refusal_of t)) (sym c.in-Ok.ensures.cases.0) ∙ ap is_some (sym c.in-Some.ensures))
