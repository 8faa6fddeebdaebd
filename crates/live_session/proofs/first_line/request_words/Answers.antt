use Rattle.std.proofs.Common.{sym, ap, ◌∙◌}
use Rattle.text_lines.specs.Text.{lines, words}
use Rattle.request_files.proofs.ClientLemmas.{first_alone, none_alone}
use Rattle.live_session.proofs.first_line.request_words.Goals as goal

pub returns-in_default : goal.returns-in_default
returns-in_default c = none_alone c.args.line.now c.requires.line (ap lines (sym c.over-lines.ensures.rest) ∙ c.in_default.ensures.steps.0)

pub returns-in_default-next : goal.returns-in_default-next
returns-in_default-next c =
    let same = first_alone c.args.line.now c.in-Some.arguments.rest.now _ c.requires.line (ap lines (sym c.over-lines.ensures.rest) ∙ c.in-Some.ensures.steps.0) in
    ap words (sym same) ∙ c.in_default-next.ensures.steps.0

pub returns : goal.returns
returns c =
    let same = first_alone c.args.line.now c.in-Some.arguments.rest.now _ c.requires.line (ap lines (sym c.over-lines.ensures.rest) ∙ c.in-Some.ensures.steps.0) in
    ap words (sym same) ∙ c.in-Some-next.ensures.steps.0
