use Rattle.std.proofs.Common.{sym, ◌∙◌, arith}
use Rattle.serve_words.proofs.NumberLemmas.{parsed, number_plus, number_zero}
use Rattle.refusal_places.proofs.number.number.Goals as goal
use Rattle.refusal_places.proofs.number.number.Goals.{else-first-eq48-via-then-first-eq48+else-word-gt1, else-first-eq48-via-else-first-eq48}

pub returns-then-first-eq43 : goal.returns-then-first-eq43
returns-then-first-eq43 c = sym (number_plus c.args.word.now (sym c.first_byte-first.ensures ∙ c.if-first-eq43.true))

pub returns-then-word-gt1 : goal.returns-then-word-gt1
returns-then-word-gt1 c = sym (number_zero c.args.word.now (sym c.first_byte-first.ensures ∙ c.if-first-eq48.true) (omega arith))

pub returns : goal.returns
returns c = c.ok.ensures.value ∙ sym (parsed c.args.word.now c.parse.result (λ e. c.if-first-eq43.false (c.first_byte-first.ensures ∙ e))
    (λ e. elim c.else-first-eq48.branch [
      | else-first-eq48-via-then-first-eq48+else-word-gt1 w ↦ omega arith
      | else-first-eq48-via-else-first-eq48 w ↦ absurd (w.if-first-eq48.false (c.first_byte-first.ensures ∙ e))
    ]) c.parse.ensures.value.0)
