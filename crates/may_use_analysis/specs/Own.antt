-- Symbols that speak of the variables and tables of their handler alone.
use Rattle.std.specs.Prelude.{◌≡◌, ℕ, ◌+◌, ◌<◌, List, [], length, Some, slice_get, slice_index_or}
use Rattle.std.specs.List.{AllByRecursion}
use Rattle.session_values.specs.declared.kind.TableKind.{TableKind}
use Rattle.session_values.specs.Kinds.{home}
use Rattle.symbolic_ops.specs.Instantiate.{IsWithin}
use Rattle.symbolic_ops.specs.declared.symbol.Symbol.{Symbol}
use Rattle.handler_check.specs.File.{File}
use Rattle.check_meaning.specs.Code.{points}
use Rattle.handler_check.specs.Resolved.{code_at, shape_of, variables_at}

-- the symbol mentions none but the first so many variables, and its table is there and of its
-- operation's kind
pub record SpeaksOf (shape : List TableKind) (variables : ℕ) (s : Symbol) : Type 0 where
  pub within : IsWithin variables s
  pub table : slice_get shape s.table ≡ Some (home s.kind)

-- it mentions variables of the handler of this number alone, and a table of the file
abbrev pub IsOfHandler : File → ℕ → Symbol → Type 0
IsOfHandler f h = SpeaksOf (shape_of f) (length (variables_at f h))

-- so do all symbols of the lists
abbrev pub AreOfHandlers : File → List (List (List Symbol)) → Type 0
AreOfHandlers f all =
    (h p : ℕ) → h < length f.handlers → p < 1 + points (code_at f h)
    → AllByRecursion (IsOfHandler f h) (slice_index_or (slice_index_or all h []) p [])
