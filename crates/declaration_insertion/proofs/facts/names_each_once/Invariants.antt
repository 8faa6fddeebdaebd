use Rattle.std.proofs.Common.{take}
use Rattle.declaration_insertion.specs.Facts.{NamesEachOnce}
use Rattle.declaration_insertion.proofs.facts.names_each_once.Given as goal

abbrev pub invariant-loop-i : goal.invariant-loop-i
invariant-loop-i l = NamesEachOnce (take l.i l.list)
