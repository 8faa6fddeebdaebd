use Rattle.std.proofs.Common.{take}
use Rattle.std.specs.List.{AllByRecursion}
use Rattle.admission_book.specs.Touched.{IsTouched}
use Rattle.admission_book.proofs.touched_tables.TouchedTables.of.Given as goal

abbrev pub invariant-loop-s : goal.invariant-loop-s
invariant-loop-s l = AllByRecursion (λ s. IsTouched l.touched s) (take l.s-index l.symbols)
