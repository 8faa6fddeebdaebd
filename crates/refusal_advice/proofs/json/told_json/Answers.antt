use Rattle.std.proofs.Common.{◌≡◌, Some, ◌∙◌, ap, sym}
use Rattle.refusal_places.specs.Answers.{said_of}
use Rattle.refusal_places.specs.Refusals.{refusal_of, said}
use Rattle.refusal_places.specs.RuleTable.{row_of}
use Rattle.refusal_places.proofs.Saying.{said_utf8, said_none}
use Rattle.refusal_advice.proofs.Mapped.{ok_map}
use Rattle.refusal_advice.proofs.Objects.{none_told, told_by}
use Rattle.refusal_advice.proofs.json.told_json.Goals as goal

pub returns-in_default : goal.returns-in_default
returns-in_default c = none_told c.args.name.now c.args.file.now c.args.input.now (said_none c.args.input.now c.in_default.ensures.cases.0)

pub returns-in-Some : goal.returns-in-Some
returns-in-Some c =
    let is : said_of c.args.input.now ≡ Some (said (row_of c.in-Some.refusal.rule) c.in-Some.refusal.place) =
    said_utf8 c.args.input.now c.in-Ok.ensures.cases.1 ∙ ap refusal_of (sym c.in-Ok.ensures.cases.0) ∙ sym c.in-Some.ensures in
    ok_map _ _ (λ o h. told_by c.args.name.now c.args.file.now c.args.input.now _ o is h) c.refusal_json.result c.refusal_json.ensures
