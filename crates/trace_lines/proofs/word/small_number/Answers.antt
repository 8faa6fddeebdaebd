use Rattle.std.proofs.Common.{◌≡◌, true, sym, ap, ◌∙◌, get_or}
use Rattle.std.specs.Char.{is_ascii_digit}
use Rattle.trace_lines.proofs.WordLemmas.{small_kept, small_other, small_read, small_unread, small_zero}
use Rattle.trace_lines.proofs.word.small_number.Goals as goal

pub returns-then-not-is_ascii_digit : goal.returns-then-not-is_ascii_digit
returns-then-not-is_ascii_digit c = sym (small_other c.args.word.now (ap is_ascii_digit (sym c.first_byte-first.ensures) ∙ sym c.is_ascii_digit.ensures.value ∙ c.if-not-is_ascii_digit.true))

pub returns-then-has_front_zero : goal.returns-then-has_front_zero
returns-then-has_front_zero c = sym (small_zero c.args.word.now (sym c.has_front_zero.ensures ∙ c.if-has_front_zero.true))

pub returns-in-None : goal.returns-in-None
returns-in-None c = sym (small_unread c.args.word.now (ap is_ascii_digit (sym c.first_byte-first.ensures) ∙ sym c.is_ascii_digit.ensures.value ∙ c.if-not-is_ascii_digit.false) (sym c.number.ensures ∙ c.in-None.is))

pub returns-in-Some : goal.returns-in-Some
returns-in-Some c =
    let digit : is_ascii_digit (get_or c.args.word.now 0 0) ≡ true = ap is_ascii_digit (sym c.first_byte-first.ensures) ∙ sym c.is_ascii_digit.ensures.value ∙ c.if-not-is_ascii_digit.false in
    let small = small_read c.args.word.now c.in-Some.n digit (sym c.has_front_zero.ensures ∙ c.if-has_front_zero.false) (sym c.number.ensures ∙ c.in-Some.is) in
    c.ok.ensures.value ∙ small_kept c.args.word.now c.in-Some.n c.try_from.result small c.try_from.ensures
