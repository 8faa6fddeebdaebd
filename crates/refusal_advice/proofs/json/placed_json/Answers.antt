use Rattle.std.proofs.Common.{ap, map, string_bytes, ◌∙◌}
use Rattle.serde_json.specs.View.{view}
use Rattle.refusal_places.specs.Refusals.{said}
use Rattle.refusal_places.specs.RuleTable.{row_of}
use Rattle.refusal_advice.specs.Json.{refusal_value}
use Rattle.refusal_advice.proofs.Objects.{json_of}
use Rattle.refusal_advice.proofs.json.placed_json.Goals as goal

pub returns : goal.returns
returns c =
    let r = said (row_of c.args.refusal.now.rule) c.args.refusal.now.place in
    json_of c.args.name.now c.args.file.now r c.args.place (map string_bytes c.in_ok-advice.advice.items) c.in_ok-json_text.field-0.items (view c.in_ok-value.value) c.requires c.in_ok-advice.ensures
    (c.in_ok-value.ensures ∙ ap (λ ls. refusal_value c.args.name.now r c.args.place (map string_bytes ls)) c.as_slice.ensures.value) c.in_ok-json_text.ensures
