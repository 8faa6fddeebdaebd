use Rattle.std.proofs.Common.{◌+◌, ◌-◌, ◌*◌, ◌<◌, get_or, cond, Some, None, refl, sym, ap, ◌∙◌, arith}
use Rattle.text_lines.specs.Values.{number_from}
use Rattle.text_lines.proofs.DigitLemmas.{digits_fail, few_here, longer, ten_most, whole}
use Rattle.text_lines.proofs.word_value.few_digits.Goals as goal

pub loop-b-init : goal.loop-b-init
loop-b-init c = (refl, refl, omega arith)

pub returns-then-not-is_ascii_digit-clause-number : goal.returns-then-not-is_ascii_digit-clause-number
returns-then-not-is_ascii_digit-clause-number c = ap (λ t. cond t (Some (number_from 0 c.args.digits.now)) None) (sym (digits_fail c.args.digits.now c.loop-b.b-index (get_or c.args.digits.now c.loop-b.b-index 0) c.loop-b-test.true refl (sym c.is_ascii_digit.ensures.value ∙ c.if-not-is_ascii_digit.true)))

pub overflow_mul-number : goal.overflow_mul-number
overflow_mul-number c =
    let small : c.loop-b.number * 10 + (get_or c.args.digits.now c.loop-b.b-index 0 - 48) < 1000000000000000000 = few_here c.args.digits.now c.loop-b.b-index (get_or c.args.digits.now c.loop-b.b-index 0) c.loop-b.number c.loop-b-test.true c.requires (sym c.is_ascii_digit.ensures.value ∙ c.if-not-is_ascii_digit.false) c.loop-b.invariant.2 in
    omega (arith, small)

pub overflow_add-number : goal.overflow_add-number
overflow_add-number c =
    let small : c.loop-b.number * 10 + (get_or c.args.digits.now c.loop-b.b-index 0 - 48) < 1000000000000000000 = few_here c.args.digits.now c.loop-b.b-index (get_or c.args.digits.now c.loop-b.b-index 0) c.loop-b.number c.loop-b-test.true c.requires (sym c.is_ascii_digit.ensures.value ∙ c.if-not-is_ascii_digit.false) c.loop-b.invariant.2 in
    omega (arith, small)

pub loop-b-preserved : goal.loop-b-preserved
loop-b-preserved c =
    let here = longer c.args.digits.now c.loop-b.b-index (get_or c.args.digits.now c.loop-b.b-index 0) c.loop-b.number c.loop-b-test.true refl (sym c.is_ascii_digit.ensures.value ∙ c.if-not-is_ascii_digit.false) c.loop-b.invariant.0 c.loop-b.invariant.1 c.loop-b.invariant.2 in
    (here.number, here.digits, here.small)

pub returns-clause-number : goal.returns-clause-number
returns-clause-number c = whole c.args.digits.now c.loop-b.b-index c.loop-b.number c.loop-b-test.false c.loop-b.invariant.0 c.loop-b.invariant.1

pub returns-clause-small : goal.returns-clause-small
returns-clause-small c = omega (arith, c.loop-b.invariant.2, ten_most c.loop-b.b-index (omega (arith, c.loop-b.auto.b-index-end, c.requires)))
