use Rattle.std.proofs.Common.{map, string_bytes}
use Rattle.refusal_places.specs.Refusals.{said}
use Rattle.refusal_places.specs.RuleTable.{row_of}
use Rattle.refusal_advice.proofs.Mapped.{ok_map}
use Rattle.refusal_advice.proofs.Telling.{of_other, of_text}
use Rattle.refusal_advice.proofs.advising.advice_for.Goals as goal

pub returns-in-Ok : goal.returns-in-Ok
returns-in-Ok c =
    let r = said (row_of c.args.refusal.now.rule) c.args.refusal.now.place in
    ok_map _ _ (λ lines h. of_text c.args.file.now c.in-Ok.text.now r (map string_bytes lines.items) c.in-Ok.ensures.cases.0 h) c.advice_in.result c.advice_in.ensures

pub returns-in-Err : goal.returns-in-Err
returns-in-Err c = of_other c.args.file.now (said (row_of c.args.refusal.now.rule) c.args.refusal.now.place) _ c.in-Err.ensures.cases.0
