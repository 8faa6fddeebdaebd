use Rattle.std.proofs.Common.{take}
use Rattle.std.specs.List.{AllByRecursion}
use Rattle.range_tables.specs.Symbols.{RangeCommutesWith}
use Rattle.range_tables.proofs.against.first_against.Given as goal

abbrev pub invariant-loop-i : goal.invariant-loop-i
invariant-loop-i l = AllByRecursion (RangeCommutesWith l.op) (take l.i l.symbols)
