use Rattle.std.proofs.Common.{refl, sym, ◌∙◌}
use Rattle.text_lines.proofs.NumberLemmas.{parsed, number_plus}
use Rattle.text_lines.proofs.word_value.parsed_number.Goals as goal

pub returns-then-first-eq43 : goal.returns-then-first-eq43
returns-then-first-eq43 c = sym (number_plus c.args.word.now (sym c.first_byte-first.ensures ∙ c.if-first-eq43.true))

pub returns : goal.returns
returns c = c.ok.ensures.value ∙ sym (parsed c.args.word.now c.parse.result _ refl (λ e. c.if-first-eq43.false (c.first_byte-first.ensures ∙ e)) c.parse.ensures.value.0)
