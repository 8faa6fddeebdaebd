use Rattle.std.proofs.Common.{sym, ap, ◌∙◌}
use Rattle.refusal_places.specs.Refusals.{refusal_of}
use Rattle.refusal_places.proofs.Saying.{said_utf8, said_none}
use Rattle.refusal_places.proofs.answering.refusal_in.Goals as goal

pub returns-in_default : goal.returns-in_default
returns-in_default c = sym (said_none c.args.input.now c.in_default.ensures.cases.0)

pub returns : goal.returns
returns c = c.refusal_of.ensures ∙ ap refusal_of c.in-Ok.ensures.cases.0 ∙ sym (said_utf8 c.args.input.now c.in-Ok.ensures.cases.1)
