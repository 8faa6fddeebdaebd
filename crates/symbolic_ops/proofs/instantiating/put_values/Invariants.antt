use Rattle.std.proofs.Common.{◌≡◌, ◌++◌, map, take, drop}
use Rattle.std.specs.List.{AllByRecursion}
use Rattle.symbolic_ops.specs.Instantiate.{symbol_in}
use Rattle.symbolic_ops.specs.Matching.{HasNoVar}
use Rattle.symbolic_ops.proofs.instantiating.put_values.Given as goal

abbrev pub invariant-loop-i : goal.invariant-loop-i
invariant-loop-i l = record {
  values : l.symbols ≡ map (symbol_in l.env) (take l.i l.fn.symbols) ++ drop l.i l.fn.symbols;
  known : AllByRecursion HasNoVar (map (symbol_in l.env) (take l.i l.fn.symbols));
}
