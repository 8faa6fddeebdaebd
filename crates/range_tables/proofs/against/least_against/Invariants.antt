use Rattle.std.proofs.Common.{take}
use Rattle.std.specs.List.{AllByRecursion}
use Rattle.range_tables.specs.Session.{Passes}
use Rattle.range_tables.proofs.against.least_against.Given as goal

abbrev pub invariant-loop-h : goal.invariant-loop-h
invariant-loop-h l = AllByRecursion (Passes l.op) (take l.h l.holds)
