use Rattle.std.proofs.Common.{◌≡◌, ◌<◌, ◌≤◌, true, take}
use Rattle.std.specs.Str.{all_ascii_digits}
use Rattle.text_lines.specs.Values.{number_from}
use Rattle.text_lines.proofs.DigitLemmas.{ten_to}
use Rattle.text_lines.proofs.word_value.leading_number.Given as goal

abbrev pub invariant-loop-b : goal.invariant-loop-b
invariant-loop-b l = (l.len ≡ l.b-index) × (l.number ≡ number_from 0 (take l.b-index l.bytes)) × (all_ascii_digits (take l.b-index l.bytes) ≡ true) × (l.number < ten_to l.b-index) × (l.b-index ≤ 18)
