-- What serving a session file through a hall promises. Only this crate's own functions cite it.
use Rattle.std.specs.Prelude.{◌≡◌, ℕ, zero, suc, ◌+◌, ◌*◌, ◌<◌, ◌≤◌, List, [], ◌∷◌, length, Option, Some, None}
use Rattle.std.specs.List.{AllByRecursion}
use Rattle.session_values.specs.Limits.{max_callers, max_requests}
use Rattle.session_values.specs.ReplyText.{reply_text}
use Rattle.session_journal.specs.Journal.{done_operations}
use Rattle.session_journal.specs.Opening.{Pair, entries_of}
use Rattle.session_journal.specs.Script.{Meaning, room, session_of}
use Rattle.session_hall.specs.Closings.{ClosedView, IsDone}
use Rattle.session_hall.specs.Listings.{AreLeft, listed}
use Rattle.serve_faults.specs.Language.{File}
use Rattle.handler_machine.specs.Scripts.{meaning}
use Rattle.reply_sheet.specs.Printable.{ArePrintableReplies}
use Rattle.table_lines.specs.Dumped.{CanDumpAll, HaveRoom, dump_text}
use Rattle.serve_words.specs.Summary.{summary}
use Rattle.serve_faults.specs.declared.status.Status.{Status}
use Rattle.serve_faults.specs.declared.status.Status.TheVariants as status
use Rattle.serve_faults.specs.Input.{Parts, parts_of}
use Rattle.byte_ends.specs.Changes.{Change, IsUntouched}
use Rattle.serve_faults.specs.Session.{IsSession, all_names_of, session_of_parts}
use Rattle.serve_faults.specs.Traced.{CanBeTold, table_places}
use Rattle.trace_lines.specs.Bounds.{IsHeldEvent}
use Rattle.trace_lines.specs.EventText.{trace_text}
use Rattle.serve_reading.specs.Reasons.{IsInputReason}
use Rattle.serve_reading.specs.Sessions.{IsSessionInput}
use Rattle.serve_reading.specs.declared.session.Loaded.{Loaded}
use Rattle.serve_reading.specs.declared.load_error.LoadError.{LoadError}
use Rattle.serve_single.specs.Serving.{EndsBy, script_of_loaded, status_of}
use Rattle.serve_core.specs.Runs.{script_of_session}
use Rattle.serve_core.specs.declared.writing.Writing.{Writing}
use Rattle.serve_core.specs.declared.writing.Writing.TheVariants.{AtEnd, Replies}
use Rattle.serve_core.specs.declared.writing.Later.{Later}
use Rattle.serve_core.specs.declared.writing.Later.TheVariants.{Events, Summary, Tables}

-- ---- what a closed hall leaves

-- the entries of n tables of a closed hall, from table i on
abbrev pub lists_from : ClosedView → ℕ → ℕ → List (List Pair)
lists_from d i zero = []
lists_from d i (suc n) = listed d i ∷ lists_from d (i + 1) n

-- the entries of its n tables
abbrev pub final_lists : ClosedView → ℕ → List (List Pair)
final_lists d n = lists_from d 0 n

-- whatever script it served, these are the entries that it leaves its tables with
abbrev pub AreFinal : ClosedView → ℕ → Type 0
AreFinal d n = (m : Meaning) → IsDone m d → (t : ℕ) → t < n → AreLeft m t (listed d t)

-- The replies can be printed, and so can the tables of this file, where their entries are the final
-- ones, and the events of the journal, which a program holds.
pub record IsPrintable (names : List (List ℕ)) (f : File) (d : ClosedView) : Type 0 where
  pub replies : ArePrintableReplies names d.replies
  pub few : length d.replies ≤ max_requests
  pub tables : AreFinal d (length f.tables)
      → CanDumpAll names f.tables (final_lists d (length f.tables))
  pub told : d.callers ≤ max_callers → AllByRecursion IsHeldEvent d.journal
      → CanBeTold names f d.journal
  pub some : 0 < d.shards
  pub parts : length d.parts ≡ length f.tables * d.shards

-- so whatever closed hall served this script
abbrev pub CanPrint : List (List ℕ) → File → Meaning → Type 0
CanPrint names f m = (d : ClosedView) → IsDone m d → IsPrintable names f d

-- where tables are to be written, there is room for so many entries as a table may have at the end
abbrev pub HasCapacity : Later → Meaning → ℕ → Type 0
HasCapacity (Summary requests) m capacity = Unit {0}
HasCapacity Events m capacity = Unit {0}
HasCapacity Tables m capacity = (t : ℕ) → t < length m.shape
    → length (entries_of m.opened t) + room m t ≤ capacity

-- so there is for each table
abbrev pub HasRoomFor : Later → File → ClosedView → ℕ → Type 0
HasRoomFor (Summary requests) f d capacity = Unit {0}
HasRoomFor Events f d capacity = Unit {0}
HasRoomFor Tables f d capacity = AreFinal d (length f.tables)
    → HaveRoom capacity (final_lists d (length f.tables))

-- what is written of a session whose tables are written are its final ones, and events that are
-- written read back
abbrev pub HasLeft : Writing → List (List ℕ) → File → ClosedView → Type 0
HasLeft Replies names f d = Unit {0}
HasLeft (AtEnd (Summary requests)) names f d = Unit {0}
HasLeft (AtEnd Tables) names f d = AreFinal d (length f.tables)
HasLeft (AtEnd Events) names f d = CanBeTold names f d.journal

-- The parts' session was served through a hall by so many callers, over so many shards a table; its
-- names are these.
pub record HasServed (parts : Parts) (callers shards : ℕ) (names : List (List ℕ))
    (d : ClosedView) : Type 0 where
  pub file : File
  pub is_session : IsSession parts file
  pub script : Meaning
  pub script_is : script ≡ script_of_session parts file is_session.program.lists
  pub session_is : session_of script ≡ session_of_parts parts file
  pub done : IsDone script d
  pub callers_are : d.callers ≡ callers
  pub shards_are : d.shards ≡ shards
  pub names_are : names ≡ all_names_of parts

-- what is written of a session that was served: its replies, how many operations it made and how many
-- bytes its replies take, its final tables, or its events
abbrev pub text_of : Writing → List (List ℕ) → File → ClosedView → List ℕ
text_of Replies names f d = reply_text names 0 d.replies
text_of (AtEnd Tables) names f d = dump_text names f.tables (final_lists d (length f.tables))
text_of (AtEnd Events) names f d = trace_text names (table_places f) d.journal
text_of (AtEnd (Summary requests)) names f d =
    summary requests (length (done_operations d.journal))
    (length (reply_text names 0 d.replies))

-- a script was served through this hall, and what is asked of it was written
pub record EndsAsServed {O : Type 0} (w : Writing) (names : List (List ℕ)) (f : File) (m : Meaning)
    (callers shards : ℕ) (out : Change O) (s : Status) (d : ClosedView) : Type 0 where
  pub done : IsDone m d
  pub callers_are : d.callers ≡ callers
  pub shards_are : d.shards ≡ shards
  pub left : HasLeft w names f d
  pub ends : EndsBy (text_of w names f d) out s

-- what was loaded was served; or memory ran out before, and nothing was written
abbrev pub EndsLoaded : {O : Type 0} → Writing → ℕ → ℕ → Loaded → Change O → Status
    → Option ClosedView → Type 0
EndsLoaded w callers shards l out s None = (s ≡ status.NoMemory) × IsUntouched out
EndsLoaded w callers shards l out s (Some d) =
    EndsAsServed w l.names l.program.file (meaning (script_of_loaded l)) callers shards out s d

-- nothing of an input was served, for this reason
pub record EndsUnserved {O : Type 0} (input : List ℕ) (out : Change O) (s : Status) : Type 0 where
  pub reason : LoadError
  pub is : s ≡ status_of reason
  pub why : IsInputReason input reason
  pub same : IsUntouched out

-- an input is a session file that was served, and what is asked of it was written
pub record EndsServed {O : Type 0} (w : Writing) (callers shards : ℕ) (input : List ℕ)
    (out : Change O) (s : Status) (d : ClosedView) : Type 0 where
  pub is_input : IsSessionInput input
  pub names : List (List ℕ)
  pub served : HasServed (parts_of input) callers shards names d
  pub left : HasLeft w names served.file d
  pub ends : EndsBy (text_of w names served.file d) out s

-- one of both, by whether a hall is left
abbrev pub EndsSession : {O : Type 0} → Writing → ℕ → ℕ → List ℕ → Change O → Status
    → Option ClosedView → Type 0
EndsSession w callers shards input out s None = EndsUnserved input out s
EndsSession w callers shards input out s (Some d) = EndsServed w callers shards input out s d
