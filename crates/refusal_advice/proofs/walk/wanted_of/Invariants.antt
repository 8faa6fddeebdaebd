use Rattle.std.proofs.Common.{◌≡◌, take}
use Rattle.std.specs.List.{filter}
use Rattle.refusal_advice.specs.Parts.{parts_of}
use Rattle.refusal_advice.specs.Walk.{allows}
use Rattle.refusal_advice.proofs.walk.wanted_of.Given as goal

-- of the classes before the index
abbrev pub invariant-loop-class : goal.invariant-loop-class
invariant-loop-class l = l.found.items ≡ filter (allows (parts_of l.parts)) (take l.class-index l.classes)
