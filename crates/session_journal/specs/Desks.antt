-- What contracts see of a desk, and what its calls leave.
use Rattle.std.specs.Prelude.{◌≡◌, ℕ, ◌++◌, List, [], ◌∷◌, Option, Some, None, Bool, true}
use Rattle.session_values.specs.declared.op.Op.{Op}
use Rattle.session_values.specs.declared.value.Value.{Value}
use Rattle.session_values.specs.Dialogue.{Next, Entry, rest, replies}
use Rattle.symbolic_ops.specs.declared.symbol.Symbol.{Symbol}
use Rattle.symbolic_ops.specs.Matching.{Covered}
use Rattle.session_journal.specs.Script.{Meaning, IsForesight}

-- what a desk is at: its ticket, the entries so far, the present foresight, the operation and reply
-- that wait, whether it has ended, data that names what it stands over, and whether it never wants
-- memory
pub record DeskView : Type 0 where
  pub ticket : ℕ
  pub entries : List Entry
  pub present : List Symbol
  pub waiting : Option Entry
  pub ended : Bool
  pub home : List ℕ
  pub sure : Bool

-- what the desk's ticket does next
abbrev pub next_of : Meaning → DeskView → Next
next_of m d = m.next d.ticket (replies d.entries)

-- the last declaration that the desk's ticket passes before it calls or answers
abbrev pub due_of : Meaning → DeskView → List Symbol
due_of m d = m.due d.ticket (replies d.entries)

-- the ticket may narrow to this list after these entries
pub record MayNarrow (m : Meaning) (t : ℕ) (entries : List Entry)
    (present list : List Symbol) : Type 0 where
  pub covered : Covered list present
  pub foresight : IsForesight (rest (m.next t) (replies entries)) list

-- an operation waits with its reply
abbrev pub with_waiting : DeskView → Op → Value → DeskView
with_waiting d op v = record {
  ticket = d.ticket;
  entries = d.entries;
  present = d.present;
  waiting = Some (record { op = op; reply = v });
  ended = d.ended;
  home = d.home;
  sure = d.sure;
}

-- an entry is made, and none waits
abbrev pub with_entry : DeskView → Entry → List Symbol → DeskView
with_entry d e f = record {
  ticket = d.ticket;
  entries = d.entries ++ e ∷ [];
  present = f;
  waiting = None;
  ended = d.ended;
  home = d.home;
  sure = d.sure;
}

-- another foresight is the present one
abbrev pub with_present : DeskView → List Symbol → DeskView
with_present d f = record {
  ticket = d.ticket;
  entries = d.entries;
  present = f;
  waiting = d.waiting;
  ended = d.ended;
  home = d.home;
  sure = d.sure;
}

-- the ticket has ended, and nothing more may come of it
abbrev pub with_end : DeskView → DeskView
with_end d = record {
  ticket = d.ticket;
  entries = d.entries;
  present = [];
  waiting = d.waiting;
  ended = true;
  home = d.home;
  sure = d.sure;
}

-- what finish asks: an operation waits, the list is the one told after it, and the ticket may
-- narrow to it
abbrev pub MayFinish : Meaning → DeskView → Option Entry → List Symbol → Type 0
MayFinish m d None f = ⊥
MayFinish m d (Some e) f = (f ≡ m.told d.ticket (replies (d.entries ++ e ∷ [])))
    × MayNarrow m d.ticket (d.entries ++ e ∷ []) d.present f

-- the desk after finish
abbrev pub finished : DeskView → Option Entry → List Symbol → DeskView
finished d None f = d
finished d (Some e) f = with_entry d e f
