use Rattle.std.proofs.Common.{map, string_bytes}
use Rattle.refusal_places.specs.Refusals.{said}
use Rattle.refusal_places.specs.RuleTable.{row_of}
use Rattle.refusal_advice.proofs.Mapped.{ok_map}
use Rattle.refusal_advice.proofs.Telling.{of_grammar}
use Rattle.refusal_advice.proofs.advising.advice_in.Goals as goal

pub returns-then-is_of_grammar : goal.returns-then-is_of_grammar
returns-then-is_of_grammar c =
    let r = said (row_of c.args.refusal.now.rule) c.args.refusal.now.place in
    ok_map _ _ (λ lines h. of_grammar c.args.text.now c.handlers_of-source.result.now r c.byte_of-at.result (map string_bytes lines.items) c.handlers_of-source.ensures.text c.byte_of-at.ensures h) c.grammar.result c.grammar.ensures
