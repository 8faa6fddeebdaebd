use Rattle.std.proofs.Common.{◌≡◌, Some, ◌∙◌, ap, map, string_bytes, sym}
use Rattle.refusal_places.specs.Answers.{said_of}
use Rattle.refusal_places.specs.Refusals.{refusal_of, said}
use Rattle.refusal_places.specs.RuleTable.{row_of}
use Rattle.refusal_places.proofs.Saying.{said_utf8, said_none}
use Rattle.refusal_advice.proofs.Mapped.{ok_map}
use Rattle.refusal_advice.proofs.Telling.{to_none, to_some}
use Rattle.refusal_advice.proofs.explaining.advice_to.Goals as goal

pub returns-in_default : goal.returns-in_default
returns-in_default c = to_none c.args.file.now c.args.input.now (map string_bytes c.new.result.items) (said_none c.args.input.now c.in_default.ensures.cases.0) (ap (map string_bytes) c.new.ensures.items)

pub returns-in-Some : goal.returns-in-Some
returns-in-Some c =
    let is : said_of c.args.input.now ≡ Some (said (row_of c.in-Some.refusal.rule) c.in-Some.refusal.place) =
    said_utf8 c.args.input.now c.in-Ok.ensures.cases.1 ∙ ap refusal_of (sym c.in-Ok.ensures.cases.0) ∙ sym c.in-Some.ensures in
    ok_map _ _ (λ lines h. to_some c.args.file.now c.args.input.now (map string_bytes lines.items) _ is h) c.advice_for.result c.advice_for.ensures

pub returns-in-None : goal.returns-in-None
returns-in-None c =
    to_none c.args.file.now c.args.input.now (map string_bytes c.new-in-None.result.items) (said_utf8 c.args.input.now c.in-Ok.ensures.cases.1 ∙ ap refusal_of (sym c.in-Ok.ensures.cases.0) ∙ sym c.in-None.ensures) (ap (map string_bytes) c.new-in-None.ensures.items)
