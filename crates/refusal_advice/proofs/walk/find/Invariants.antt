use Rattle.std.proofs.Common.{◌≡◌, None, length}
use Rattle.refusal_advice.specs.Parts.{parts_of}
use Rattle.refusal_advice.specs.Walk.{found_in, with_end}
use Rattle.refusal_advice.proofs.walk.find.Given as goal

-- the words that were read stand before the place, and were taken
abbrev pub invariant-words : goal.invariant-words
invariant-words l = found_in l.at None (parts_of l.fn.parts.items) (with_end l.fn.reader) ≡ found_in l.at l.last (parts_of l.parts.items) (with_end l.reader)

abbrev pub decreases-words : goal.decreases-words
decreases-words l = length l.reader.words
