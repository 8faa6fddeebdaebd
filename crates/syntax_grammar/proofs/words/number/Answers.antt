use Rattle.std.proofs.Common.{◌≡◌, ◌+◌, ◌*◌, ◌-◌, ◌^◌, min, get_or, arith, sym, ◌∙◌, ap}
use Rattle.syntax_grammar.specs.Words.{number_of}
use Rattle.syntax_grammar.proofs.NumberLemmas.{number_from-turn, number_from-end}
use Rattle.syntax_grammar.proofs.words.number.Goals as goal

pub loop-digit-preserved : goal.loop-digit-preserved
loop-digit-preserved c =
    let bs = c.as_bytes-digit-items.result.now in
    let step : c.saturating_add-number.result ≡ min (c.loop-digit.number * 10 + (get_or bs c.loop-digit.digit-index 0 - 48)) (2 ^ 64 - 1) = omega arith in
    (omega arith, number_from-turn (2 ^ 64 - 1) _ c.loop-digit.number c.loop-digit.digit-index bs c.loop-digit-test.true step ∙ c.loop-digit.invariant.1)

pub returns : goal.returns
unfolding number_of
returns c =
    let bs = c.as_bytes-digit-items.result.now in
    let last = number_from-end (2 ^ 64 - 1) c.loop-digit.number c.loop-digit.digit-index bs c.loop-digit-test.false in
    let end = ap (λ n. min n (2 ^ 64 - 1)) (sym last) ∙ c.loop-digit.invariant.1 in
    omega (arith, end)
