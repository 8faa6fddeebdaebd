use Rattle.std.proofs.Common.{◌≡◌, Some, None, cond, true, sym, ap, ◌∙◌, get_or, w64, arith}
use Rattle.std.proofs.lemmas.Int.{to_z_pos}
use Rattle.std.specs.Char.{is_ascii_digit}
use Rattle.std.specs.Str.{all_ascii_digits}
use Rattle.text_lines.specs.Values.{number, number_from}
use Rattle.text_lines.proofs.NumberLemmas.{few_number, counted}
use Rattle.text_lines.proofs.word_value.number.Goals as goal
use Rattle.text_lines.proofs.word_value.number.Goals.{in-Some, in-None}

-- the value of a word that begins with a digit and is short
pub returns-then-bytes-le-FEW_DIGITS : goal.returns-then-bytes-le-FEW_DIGITS
returns-then-bytes-le-FEW_DIGITS c =
    let digit : is_ascii_digit (get_or c.args.word.now 0 0) ≡ true = ap is_ascii_digit (sym c.first_byte-first.ensures) ∙ sym c.is_ascii_digit.ensures.value ∙ c.if-is_ascii_digit.true in
    let is : number c.args.word.now ≡ counted c.few_digits.result = few_number c.args.word.now c.few_digits.result digit (c.few_digits.ensures.number ∙ ap (λ w. cond (all_ascii_digits w) (Some (number_from 0 w)) None) c.as_bytes-bytes.ensures.value) c.few_digits.ensures.small in
    elim c.match-few_digits.branch [
      | in-Some w ↦ w.result-is ∙ ap Some (to_z_pos w64 w.in-Some.number (omega (arith, w.in-Some.ensures.small))) ∙ sym (is ∙ ap counted w.in-Some.is)
      | in-None w ↦ w.result-is ∙ sym (is ∙ ap counted w.in-None.is)
    ]
