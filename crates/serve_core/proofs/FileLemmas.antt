-- What is loaded of a session file, and what is served of it.
use Rattle.std.proofs.Common.{◌≡◌, ℕ, zero, suc, ◌+◌, ◌*◌, ◌<◌, ◌≤◌, List, [], ◌∷◌, length, slice_get, Option, Some, None, refl, sym, ap, ◌∙◌, subst, arith}
use Rattle.std.proofs.lemmas.List.{length-map}
use Rattle.session_values.specs.declared.reply.Reply.{Reply}
use Rattle.session_values.specs.declared.kind.TableKind.{TableKind}
use Rattle.session_values.specs.Serial.{tables_before}
use Rattle.session_journal.specs.Script.{Meaning, session_of}
use Rattle.session_hall.specs.Closings.{ClosedView, IsDone}
use Rattle.syntax_trees.specs.declared.file.TableDecl.{TableDecl}
use Rattle.serve_faults.specs.Language.{File}
use Rattle.handler_check.proofs.Fine.{few_tables}
use Rattle.request_files.specs.Session.{session}
use Rattle.handler_machine.specs.Scripts.{meaning}
use Rattle.serve_faults.specs.declared.status.Status.{Status}
use Rattle.byte_ends.specs.Changes.{Change, IsUntouched}
use Rattle.serve_faults.specs.Input.{Parts, parts_of}
use Rattle.reply_sheet.specs.Printable.{ArePrintableReplies}
use Rattle.serve_faults.specs.Printable.{IsPrintableTable}
use Rattle.serve_faults.proofs.PrintableRuns.{replies_said, tables_hold}
use Rattle.serve_faults.proofs.ToldEvents.{tables_named}
use Rattle.serve_reading.specs.declared.session.Loaded.{Loaded}
use Rattle.serve_reading.specs.declared.load_error.LoadError.{LoadError}
use Rattle.serve_reading.specs.declared.load_error.LoadError.TheVariants.{NoMemory}
use Rattle.serve_reading.specs.Reasons.{IsInputReason}
use Rattle.serve_reading.specs.Sessions.{IsLoaded, IsSessionInput}
use Rattle.serve_reading.proofs.Loading.{as_program}
use Rattle.serve_core.specs.declared.writing.Writing.{Writing}
use Rattle.serve_core.specs.Serving.{AreFinal, CanPrint, EndsLoaded, EndsSession, HasCapacity, HasRoomFor, HasServed}
use Rattle.serve_single.specs.Serving.{CanServe, script_of_loaded, status_of}
use Rattle.serve_single.proofs.EntryLemmas.{entries_printable}
use Rattle.serve_core.specs.declared.writing.Later.{Later}
use Rattle.serve_core.specs.declared.writing.Later.TheVariants.{Summary, Tables, Events}
use Rattle.serve_core.proofs.TraceLemmas.{told_events}
use Rattle.serve_core.proofs.FinalLemmas.{each_dumped, each_room, tables_long}
use Rattle.std.specs.List.{AllByRecursion, flat_map}
use Rattle.std.proofs.lemmas.Option.{slice_get_within}
use Rattle.session_values.specs.Tables.{table}
use Rattle.session_values.specs.Tables as tables
use Rattle.session_values.proofs.Serial.{replies_few}
use Rattle.session_hall.specs.Listings.{listed}
use Rattle.syntax_trees.specs.Mentions.{handler_mentions, table_mentions}
use Rattle.serve_faults.specs.Language.{HasText}
use Rattle.serve_faults.proofs.Facts.{all_first}
use Rattle.table_lines.specs.Dumped.{CanDump}

-- ---- tables
table_held : (names : List (List ℕ)) (ts : tables.Tables) (i : ℕ) → i < length ts → AllByRecursion (IsPrintableTable names) ts → IsPrintableTable names (table ts i)
table_held names [] i lt h = absurd (omega (arith, lt))
table_held names (c ∷ ts) zero lt h = h.0
table_held names (c ∷ ts) (suc i) lt h = table_held names ts i (omega (arith, lt)) h.1

-- The replies of a closed hall that served what was loaded can be printed, and so can its final
-- tables.
pub can_print : (l : Loaded) → CanServe l → CanPrint l.names l.program.file (meaning (script_of_loaded l))
can_print l h d done = record {
  replies = subst (λ (rs : List Reply). ArePrintableReplies l.names rs) (sym done.replies) (replies_said l.names file l.opening l.requests h.named h.printable_opening h.printable m.requests);
  few = omega (arith, replies_few (session_of m) m.requests, h.servable.few, ap (λ (rs : List Reply). length rs) done.replies);
  tables = λ left. record {
    few = few_tables file h.accepted.keeps;
    named = tables_named l.names file.tables (all_first (HasText l.names) (flat_map table_mentions file.tables) (flat_map handler_mentions file.handlers) h.named).0;
    entries = each_dumped d l.names 0 file.tables (λ t kind at. subst (λ (k : ℕ). CanDump l.names kind (listed d k)) (let e : t ≡ 0 + t = omega arith in e) (dumped left t kind at));
  };
  told = λ few held. told_events l.names file l.opening l.requests h.symbols h.named h.printable_opening h.printable m refl d done few held;
  some = done.some_shards;
  parts = done.parts_are ∙ ap (λ (n : ℕ). n * d.shards) kinds_long;
}
  where
    file : File
    file = l.program.file

    m : Meaning
    m = meaning (script_of_loaded l)

    kinds_long : length m.shape ≡ length file.tables
    kinds_long = length-map file.tables (λ (t : TableDecl). t.kind)

    dumped : AreFinal d (length file.tables) → (t : ℕ) (kind : TableKind) → slice_get m.shape t ≡ Some kind → CanDump l.names kind (listed d t)
    dumped left t kind at =
        let lt : t < length m.shape = slice_get_within m.shape t kind at in
        let one = left m done t (omega (arith, lt, kinds_long)) in
        record {
          apart = one.apart;
          printable = entries_printable l.names kind (table (tables_before (session_of m) m.requests) t) (listed d t) one.apart (one.are kind at)
              (table_held l.names (tables_before (session_of m) m.requests) t (omega (arith, lt, tables_long d m done)) (tables_hold l.names file l.opening l.requests h.named h.printable_opening h.printable m.requests));
        }

-- and there is room for them
pub has_room : (w : Later) (f : File) (m : Meaning) (d : ClosedView) (capacity : ℕ) → IsDone m d → length m.shape ≡ length f.tables → HasCapacity w m capacity → HasRoomFor w f d capacity
has_room (Summary requests) f m d capacity done long h = tt
has_room Events f m d capacity done long h = tt
has_room Tables f m d capacity done long h = λ left. each_room d capacity 0 (length f.tables) (λ t lt.
    let fit = h t (omega (arith, lt, long)) in
    let one = (left m done t lt).few in
    subst (λ (k : ℕ). length (listed d k) ≤ capacity) (let e : t ≡ 0 + t = omega arith in e) (omega (arith, fit, one)))

has_served : (parts : Parts) (callers shards : ℕ) (l : Loaded) (d : ClosedView) → IsLoaded parts l → IsDone (meaning (script_of_loaded l)) d → d.callers ≡ callers
    → d.shards ≡ shards → HasServed parts callers shards l.names d
has_served parts callers shards l d h done callers_are shards_are = record {
  file = l.program.file;
  is_session = record { program = as_program parts.handlers l.program h.program_of; tables = h.tables_fine; requests = h.fine };
  script = meaning (script_of_loaded l);
  script_is = λ i. meaning (record { program = l.program; opening = h.opening_is i; requests = h.requests_are i });
  session_is = λ i. session l.program.file (h.opening_is i) (h.requests_are i);
  done = done;
  callers_are = callers_are;
  shards_are = shards_are;
  names_are = h.names_are;
}

-- what becomes of an input is what becomes of what was loaded of it
pub loaded_ends : {O : Type 0} (w : Writing) (callers shards : ℕ) (input : List ℕ) (l : Loaded) (out : Change O) (s : Status) (closed : Option ClosedView) → IsSessionInput input → IsLoaded (parts_of input) l
    → EndsLoaded w callers shards l out s closed → EndsSession w callers shards input out s closed
unfolding has_served
loaded_ends w callers shards input l out s None i h e = record { reason = NoMemory; is = e.0; why = tt; same = e.1 }
loaded_ends w callers shards input l out s (Some d) i h e = record {
  is_input = i;
  names = l.names;
  served = has_served (parts_of input) callers shards l d h e.done e.callers_are e.shards_are;
  left = e.left;
  ends = e.ends;
}

-- where it isn't read, nothing is written, for this reason
pub unserved_ends : {O : Type 0} (w : Writing) (callers shards : ℕ) (input : List ℕ) (out : Change O) (e : LoadError) → IsInputReason input e → IsUntouched out
    → EndsSession w callers shards input out (status_of e) None
unserved_ends w callers shards input out e why same = record { reason = e; is = refl; why = why; same = same }
