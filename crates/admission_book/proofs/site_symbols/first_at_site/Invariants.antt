use Rattle.std.proofs.Common.{map, take}
use Rattle.std.specs.List.{AllByRecursion}
use Rattle.symbolic_ops.specs.Instantiate.{symbol_in}
use Rattle.symbolic_ops.specs.Commuting.{CommutesWith}
use Rattle.admission_book.proofs.site_symbols.first_at_site.Given as goal

abbrev pub invariant-loop-s : goal.invariant-loop-s
invariant-loop-s l = AllByRecursion (λ y. CommutesWith l.op y) (map (symbol_in l.values) (take l.s-index l.symbols))
