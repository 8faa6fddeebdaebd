-- What delays are counted by.
use Rattle.std.specs.Prelude.{ℕ, Bool, true, false, ◌&&◌, ◌==◌, List, ◌++◌, slice_get, Option, Some, None}
use Rattle.std.specs.Hash as fed
use Rattle.session_values.specs.Op.{op_eq}
use Rattle.symbolic_ops.specs.Order.{symbol_eq}
use Rattle.waiting_pairs.specs.declared.cause.Cause.{Cause}
use Rattle.waiting_pairs.specs.declared.delay.Delay.{Delay}
use Rattle.waiting_pairs.specs.Sought.{hash_value, known_or_zero}

-- the cause of a delay, where these are the handlers of the tickets
abbrev pub cause_of : List ℕ → Delay → Cause
cause_of handlers d = record {
  waits = slice_get handlers d.ticket;
  operation = d.operation;
  holder = slice_get handlers d.older;
  symbol = d.symbol;
}

-- whether both are the same number, or none
abbrev pub same_number : Option ℕ → Option ℕ → Bool
same_number (Some x) (Some y) = x == y
same_number (Some x) None = false
same_number None (Some y) = false
same_number None None = true

-- whether both are the same: in both handlers, the operation and the symbol
abbrev pub is_same : Cause → Cause → Bool
is_same a b = same_number a.waits b.waits && op_eq a.operation b.operation
    && same_number a.holder b.holder && symbol_eq a.symbol b.symbol

-- what a cause is looked up by; causes that are the same have the same
abbrev pub hash_input : Cause → List (List ℕ)
hash_input c =
    fed.u32 c.operation.table ++ hash_value c.operation.key ++ hash_value c.operation.value
    ++ hash_value (known_or_zero c.symbol.key) ++ hash_value (known_or_zero c.symbol.value)
    ++ fed.option fed.u32 c.waits ++ fed.option fed.u32 c.holder
