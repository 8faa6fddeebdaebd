use Rattle.std.proofs.Common.{◌+◌, ◌-◌, ◌*◌, ◌<◌, get_or, refl, sym, ◌∙◌, arith}
use Rattle.text_lines.proofs.DigitLemmas.{few_at, longer}
use Rattle.text_lines.proofs.LeadingLemmas.{leading, many_digits, no_digits, run_stopped, run_whole}
use Rattle.text_lines.proofs.word_value.leading_number.Goals as goal

pub returns-else-is_word_byte : goal.returns-else-is_word_byte
returns-else-is_word_byte c =
    let i = c.loop-b.invariant in
    leading c.args.bytes.now c.loop-b.number c.loop-b.len c.loop-b.b-index i.0 i.1 i.2 i.3 i.4
    (run_stopped c.args.bytes.now c.loop-b.b-index (get_or c.args.bytes.now c.loop-b.b-index 0) c.loop-b-test.true refl i.2 (sym c.is_word_byte.ensures ∙ c.if-is_word_byte.false))

pub returns-then-is_word_byte : goal.returns-then-is_word_byte
returns-then-is_word_byte c = no_digits c.args.bytes.now c.loop-b.b-index (get_or c.args.bytes.now c.loop-b.b-index 0) c.loop-b-test.true refl c.loop-b.invariant.2
    (sym c.is_ascii_digit.ensures.value ∙ c.if-not-is_ascii_digit.true) (sym c.is_word_byte.ensures ∙ c.if-is_word_byte.true)

pub returns-then-len-ge-FEW_DIGITS : goal.returns-then-len-ge-FEW_DIGITS
returns-then-len-ge-FEW_DIGITS c = many_digits c.args.bytes.now c.loop-b.b-index (get_or c.args.bytes.now c.loop-b.b-index 0) c.loop-b-test.true refl c.loop-b.invariant.2
    (sym c.is_ascii_digit.ensures.value ∙ c.if-not-is_ascii_digit.false) (omega (arith, c.loop-b.invariant.0, c.if-len-ge-FEW_DIGITS.true))

pub overflow_mul-number : goal.overflow_mul-number
overflow_mul-number c =
    let i = c.loop-b.invariant in
    let small : c.loop-b.number * 10 + (get_or c.args.bytes.now c.loop-b.b-index 0 - 48) < 1000000000000000000 = few_at c.loop-b.b-index (get_or c.args.bytes.now c.loop-b.b-index 0) c.loop-b.number (omega (arith, i.0, c.if-len-ge-FEW_DIGITS.false)) (sym c.is_ascii_digit.ensures.value ∙ c.if-not-is_ascii_digit.false) i.3 in
    omega (arith, small)

pub overflow_add-number : goal.overflow_add-number
overflow_add-number c =
    let i = c.loop-b.invariant in
    let small : c.loop-b.number * 10 + (get_or c.args.bytes.now c.loop-b.b-index 0 - 48) < 1000000000000000000 = few_at c.loop-b.b-index (get_or c.args.bytes.now c.loop-b.b-index 0) c.loop-b.number (omega (arith, i.0, c.if-len-ge-FEW_DIGITS.false)) (sym c.is_ascii_digit.ensures.value ∙ c.if-not-is_ascii_digit.false) i.3 in
    omega (arith, small)

pub loop-b-preserved : goal.loop-b-preserved
loop-b-preserved c =
    let i = c.loop-b.invariant in
    let here = longer c.args.bytes.now c.loop-b.b-index (get_or c.args.bytes.now c.loop-b.b-index 0) c.loop-b.number c.loop-b-test.true refl (sym c.is_ascii_digit.ensures.value ∙ c.if-not-is_ascii_digit.false) i.1 i.2 i.3 in
    (omega (arith, i.0), here.number, here.digits, here.small, omega (arith, i.0, c.if-len-ge-FEW_DIGITS.false))

pub returns : goal.returns
returns c =
    let i = c.loop-b.invariant in
    leading c.args.bytes.now c.loop-b.number c.loop-b.len c.loop-b.b-index i.0 i.1 i.2 i.3 i.4
    (run_whole c.args.bytes.now c.loop-b.b-index (omega (arith, c.loop-b-test.false, c.loop-b.auto.b-index-end)) i.2)
