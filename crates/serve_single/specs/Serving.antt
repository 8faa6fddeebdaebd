-- What serving a session file without a hall promises; serving through one cites a part of it.
use Rattle.std.specs.Prelude.{◌≡◌, ℕ, Bool, if◌then◌else◌, List, length, map, true}
use Rattle.std.specs.List.{AllByRecursion}
use Rattle.session_values.specs.declared.reply.Reply.{Reply}
use Rattle.session_values.specs.ReplyText.{reply_text}
use Rattle.session_values.specs.Serial.{Session, serial_replies, tables_before}
use Rattle.session_values.specs.Tables.{Tables, kind_of}
use Rattle.session_journal.specs.Opening.{IsOpening}
use Rattle.session_journal.specs.Script.{Meaning, session_of}
use Rattle.handler_check.specs.Checking.{IsAccepted}
use Rattle.handler_check.specs.Resolved.{shape_of}
use Rattle.handler_machine.specs.Scripts.{ScriptsView}
use Rattle.request_files.specs.Requests.{ArePrintable}
use Rattle.request_files.specs.Servable.{IsServable}
use Rattle.request_files.specs.Values.{is_symbol}
use Rattle.byte_ends.specs.Changes.{Change, Failed, IsUntouched, WroteAll, WrotePrefix}
use Rattle.serve_faults.specs.Command.{Command}
use Rattle.serve_faults.specs.Command.TheVariants.{Dump, Serve}
use Rattle.serve_faults.specs.Language.{File, IsNamedFile}
use Rattle.serve_faults.specs.ReadBack.{texts_of}
use Rattle.serve_faults.specs.TableRows.{ArePrintable as ArePrintableEntries}
use Rattle.serve_faults.specs.declared.status.Status.{Status}
use Rattle.serve_faults.specs.declared.status.Status.TheVariants as status
use Rattle.serve_reading.specs.declared.session.Loaded.{Loaded}
use Rattle.serve_reading.specs.declared.load_error.LoadError.{LoadError}
use Rattle.serve_reading.specs.declared.load_error.LoadError.TheVariants.{Refused, NoMemory}
use Rattle.table_lines.specs.TableText.{table_text, written_table}

-- ---- what is loaded

-- the script of what was loaded
abbrev pub script_of_loaded : Loaded → ScriptsView
script_of_loaded l = record {
  program = l.program;
  opening = l.opening;
  requests = l.requests;
}

-- its tables can open, its requests can be served, and its symbols have texts that a line has room
-- for
pub record CanServe (l : Loaded) : Type 0 where
  pub accepted : IsAccepted l.program.file
  pub opens : IsOpening (shape_of l.program.file) l.opening
  pub servable : IsServable l.program.file l.requests
  pub named : IsNamedFile l.names l.program.file
  pub printable_opening : ArePrintableEntries l.names l.opening
  pub printable : ArePrintable l.names l.requests
  pub symbols : AllByRecursion (λ text. is_symbol text ≡ true) l.names

-- ---- how a run ends

-- how a run ends that serves nothing
abbrev pub status_of : LoadError → Status
status_of NoMemory = status.NoMemory
status_of (Refused e) = status.Refused e

-- the text was written, or a front of it where the sink failed
abbrev pub EndsBy : {O : Type 0} → List ℕ → Change O → Status → Type 0
EndsBy text out status.Fine = WroteAll out text
EndsBy text out status.WriteFault = Failed out × WrotePrefix out text
EndsBy text out (status.Refused e) = ⊥
EndsBy text out status.Usage = ⊥
EndsBy text out status.NoMemory = ⊥
EndsBy text out status.ReadFault = ⊥

-- the same, where memory may have run out before anything was written
abbrev pub EndsOrWants : {O : Type 0} → List ℕ → Change O → Status → Type 0
EndsOrWants text out status.Fine = WroteAll out text
EndsOrWants text out status.WriteFault = Failed out × WrotePrefix out text
EndsOrWants text out status.NoMemory = IsUntouched out
EndsOrWants text out (status.Refused e) = ⊥
EndsOrWants text out status.Usage = ⊥
EndsOrWants text out status.ReadFault = ⊥

-- ---- serving alone

-- the tickets below n were served one at a time, in order: these are their replies, one of each,
-- and the tables after them, which keep their kinds
pub record AreServed (m : Meaning) (n : ℕ) (replies : List Reply) (ts : Tables) : Type 0 where
  pub replies_are : replies ≡ serial_replies (session_of m) n
  pub long : length replies ≡ n
  pub tables_are : ts ≡ tables_before (session_of m) n
  pub kinds : map kind_of ts ≡ m.shape

-- what is asked of a session: the text of its replies, or of its final tables
abbrev pub asked_text : Bool → List (List ℕ) → File → Session → List ℕ
asked_text tables names f s =
    if tables
    then table_text (texts_of names f.tables)
    (map (written_table names) (tables_before s s.requests))
    else reply_text names 0 (serial_replies s s.requests)

-- the command that serves a session file and writes its replies, or its final tables
abbrev pub serving : Bool → ℕ → ℕ → Command
serving tables callers shards = if tables then Dump callers shards else Serve callers shards
