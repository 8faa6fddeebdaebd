use Rattle.std.proofs.Common.{◌≡◌, ◌^◌, ◌-◌, ◌≤◌, min, drop}
use Rattle.syntax_grammar.specs.Words.{number_from}
use Rattle.syntax_grammar.proofs.words.number.Given as goal

abbrev pub invariant-loop-digit : goal.invariant-loop-digit
invariant-loop-digit l =
    (l.number ≤ 2 ^ 64 - 1) × (min (number_from l.number (drop l.digit-index l.digit-items)) (2 ^ 64 - 1) ≡ min (number_from 0 l.text) (2 ^ 64 - 1))
