use Rattle.std.proofs.Common.{◌≡◌, ◌<◌, true, take}
use Rattle.std.specs.Str.{all_ascii_digits}
use Rattle.text_lines.specs.Values.{number_from}
use Rattle.text_lines.proofs.DigitLemmas.{ten_to}
use Rattle.text_lines.proofs.word_value.few_digits.Given as goal

abbrev pub invariant-loop-b : goal.invariant-loop-b
invariant-loop-b l = (l.number ≡ number_from 0 (take l.b-index l.digits)) × (all_ascii_digits (take l.b-index l.digits) ≡ true) × (l.number < ten_to l.b-index)
