-- What contracts see of a plain desk.
use Rattle.std.specs.Prelude.{ℕ, ◌+◌, List, [], Option, None, Bool, true, false, cond, nat_lt}
use Rattle.session_values.specs.Dialogue.{Entry}
use Rattle.session_values.specs.Serial.{tables_before}
use Rattle.session_values.specs.Tables.{Tables}
use Rattle.symbolic_ops.specs.declared.symbol.Symbol.{Symbol}
use Rattle.session_journal.specs.Desks.{DeskView}
use Rattle.session_journal.specs.Journal.{run}
use Rattle.session_journal.specs.Script.{Meaning, session_of}

-- the script, and what the desk is at
pub record PlainView (S : Type 0) : Type 0 where
  pub script : S
  pub desk : DeskView

-- a plain desk has no name for what it stands over, and may want memory
abbrev pub desk_of : ℕ → List Entry → List Symbol → Option Entry → Bool → DeskView
desk_of t es f w e = record {
  ticket = t;
  entries = es;
  present = f;
  waiting = w;
  ended = e;
  home = [];
  sure = false;
}

-- before the first ticket: it is at the place behind the last one, and counts as ended
abbrev pub new_desk : Meaning → DeskView
new_desk m = desk_of m.requests [] [] None true

-- ticket t begins
abbrev pub at_beginning : Meaning → ℕ → DeskView
at_beginning m t = desk_of t [] (m.entry t) None false

-- how many tickets have ended: those before the desk's, and that one where it has ended; none where
-- the desk is at no ticket
abbrev pub ended_count : Meaning → DeskView → ℕ
ended_count m d = cond (nat_lt d.ticket m.requests) (d.ticket + cond d.ended 1 0) 0

-- the tables after the entries so far: those of the serial run before the desk's ticket, after its
-- entries
abbrev pub tables_at : Meaning → DeskView → Tables
tables_at m d = run (tables_before (session_of m) d.ticket) d.entries
