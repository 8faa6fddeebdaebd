-- Tables that can be printed.
use Rattle.std.specs.Prelude.{◌≡◌, ℕ, List, true, Some}
use Rattle.std.specs.FinMap as map
use Rattle.std.specs.FinSet as set
use Rattle.session_values.specs.declared.value.Value.{Value}
use Rattle.session_values.specs.ReplyText.{IsPrintable}
use Rattle.session_values.specs.Tables.{Container, Bindings, Members}

-- each key of a map and what it is bound to, and each member of a set, has a text of at most 64
-- bytes where it is a symbol
abbrev pub IsPrintableTable : List (List ℕ) → Container → Type 0
IsPrintableTable names (Bindings m) = (k v : Value) → map.get m k ≡ Some v
    → IsPrintable names k × IsPrintable names v
IsPrintableTable names (Members s) = (k : Value) → set.contains s k ≡ true → IsPrintable names k
