-- The session of the hall's test, and what its callers are at. Only this crate's own functions
-- cite it.
use Rattle.std.specs.Prelude.{◌≡◌, ℕ, List, [], ◌∷◌, Some, length, slice_get}
use Rattle.session_values.specs.declared.op.Op.{Op}
use Rattle.session_values.specs.declared.value.Value.{Value}
use Rattle.session_values.specs.Dialogue.{Entry}
use Rattle.symbolic_ops.specs.declared.symbol.Symbol.{Symbol}
use Rattle.symbolic_ops.specs.Matching.{exact_symbol}
use Rattle.session_journal.specs.Lists.{ListView}
use Rattle.session_hall.specs.declared.caller.Caller.{Caller}
use Rattle.session_hall.specs.declared.hall.Hall.{Hall}
use Rattle.session_hall.specs.declared.stage.Stage.{Stage}
use Rattle.session_hall.specs.Callers.{IsCallerOf, entries_of, foresight_of}
use Rattle.session_hall.specs.Closings.{Opens}
use Rattle.session_hall.specs.Names.{script_of}
use Rattle.tests_desks.specs.BookRows.{get_of, meaning_of, nil_reply, on_one_map, put_of}

-- a ticket that gets one key and may get another one, and one that puts twice
abbrev pub gets_and_puts : ListView
gets_and_puts = on_one_map (
    record {
      ops = get_of 4 ∷ [];
      reply = nil_reply;
      entry = exact_symbol (get_of 4) ∷ exact_symbol (get_of 1) ∷ [];
    }
    ∷ record {
      ops = put_of 2 7 ∷ put_of 1 7 ∷ [];
      reply = nil_reply;
      entry = exact_symbol (put_of 2 7) ∷ exact_symbol (put_of 1 7) ∷ [];
    }
    ∷ []
    )

-- the entry of an operation
abbrev pub done : Op → Value → Entry
done op v = record { op = op; reply = v }

-- a caller of the hall at this stage, whose ticket has this foresight and these entries
pub record Stands (h : Hall ListView) (c : Caller ListView) (t : ℕ) (st : Stage) (f : List Symbol)
    (es : List Entry) : Type 0 where
  pub caller : IsCallerOf meaning_of h c
  pub stage : c.stage ≡ st
  pub foresight : foresight_of c ≡ f
  pub entries : entries_of c t ≡ es

-- a hall over a list of tickets as it is opened, with two callers
pub record HasTwo (s : ListView) (h : Hall ListView) (cs : List (Caller ListView)) : Type 0 where
  pub script : script_of h ≡ s
  pub two : length cs ≡ 2
  pub callers_are : h.sizes.callers ≡ 2
  pub opens : (i : ℕ) (c : Caller ListView) → slice_get cs i ≡ Some c → Opens meaning_of h i c
