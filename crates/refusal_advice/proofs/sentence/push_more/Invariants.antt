use Rattle.std.proofs.Common.{◌≡◌, ◌++◌, string_bytes, length}
use Rattle.refusal_advice.specs.Sentence as spec
use Rattle.refusal_advice.proofs.sentence.push_more.Given as goal

-- what is appended, and what is still to be
abbrev pub invariant-classes : goal.invariant-classes
invariant-classes l = string_bytes l.text ++ spec.more_text l.rest ≡ string_bytes l.fn.text ++ spec.more_text l.fn.classes

abbrev pub decreases-classes : goal.decreases-classes
decreases-classes l = length l.rest
