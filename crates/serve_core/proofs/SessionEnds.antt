-- What a command answers to its input that serves one list of requests, from what became of the
-- session.
use Rattle.std.proofs.Common.{◌≡◌, ℕ, ◌≤◌, true, List, length, map, Option, Some, None, refl, sym, ap, ◌∙◌, subst}
use Rattle.std.proofs.lemmas.Bool.{false≢true}
use Rattle.std.proofs.lemmas.List.{length-map}
use Rattle.session_values.specs.Limits.{max_callers}
use Rattle.session_values.specs.Serial.{Session, serial_replies, tables_before}
use Rattle.session_values.specs.ReplyText.{reply_text}
use Rattle.session_values.specs.Tables.{Tables}
use Rattle.session_values.specs.declared.kind.TableKind.{TableKind}
use Rattle.session_values.specs.declared.reply.Reply.{Reply}
use Rattle.session_journal.specs.Journal.{done_operations}
use Rattle.session_journal.specs.Opening.{tables_of}
use Rattle.session_journal.specs.Script.{Meaning, session_of}
use Rattle.session_hall.specs.Closings.{ClosedView, IsDone}
use Rattle.syntax_trees.specs.declared.file.TableDecl.{TableDecl}
use Rattle.handler_check.specs.Resolved.{shape_of}
use Rattle.table_lines.specs.Dumped.{dump_text}
use Rattle.table_lines.specs.TableText.{table_text, written_table}
use Rattle.session_journal.specs.Accepted.{Accepted}
use Rattle.session_journal.specs.Bare.{bare_script}
use Rattle.trace_lines.specs.EventText.{trace_text}
use Rattle.serve_words.specs.declared.command.Command.{Command}
use Rattle.serve_words.specs.declared.command.Command.TheVariants.{Serve, Dump, Work, Trace}
use Rattle.serve_words.specs.Summary.{summary}
use Rattle.serve_faults.specs.declared.status.Status.{Status}
use Rattle.serve_faults.specs.declared.status.Status.TheVariants as status
use Rattle.serve_faults.specs.Answer.{IsTextOf}
use Rattle.byte_ends.specs.Changes.{Change, IsUntouched, WroteAll, WrotePrefix}
use Rattle.serve_faults.specs.Commands.{callers_of, input_of, shards_of}
use Rattle.serve_faults.specs.Input.{IsInput, Parts, parts_of}
use Rattle.serve_faults.specs.ReadBack.{texts_of}
use Rattle.serve_faults.specs.Session.{session_of_parts, all_names_of, replies_text, tables_text, serial_calls}
use Rattle.serve_faults.specs.Traced.{CanBeTold, IsTraced, table_places, traced_text}
use Rattle.serve_reading.specs.declared.load_error.LoadError.{LoadError}
use Rattle.serve_reading.specs.Reasons.{IsInputReason, IsReason}
use Rattle.serve_core.specs.declared.writing.Later.TheVariants.{Tables as FinalTables, Events, Summary}
use Rattle.serve_core.specs.declared.writing.Writing.TheVariants.{AtEnd, Replies}
use Rattle.serve_core.specs.declared.writing.Writing.{Writing}
use Rattle.serve_core.specs.Commands.{has_begun_writing}
use Rattle.serve_core.specs.Runs.{AnswersTo, IsLeft, IsServedThrough, Opens, WroteJournal}
use Rattle.serve_core.specs.Serving.{AreFinal, EndsServed, EndsSession, HasLeft, HasServed, final_lists, text_of}
use Rattle.serve_single.specs.Serving.{EndsBy, status_of}
use Rattle.serve_core.proofs.CallLemmas.{calls_done}
use Rattle.serve_core.proofs.EndLemmas.{begins, ends_to, reason_to}
use Rattle.serve_single.proofs.EndLemmas.{input_reason, serves_one, session_input}
use Rattle.serve_core.proofs.FinalLemmas.{final_tables}
use Rattle.serve_core.proofs.TraceLemmas.{accepted_done}

-- the text of the replies of what was served
served_text_is : (parts : Parts) (callers shards : ℕ) (names : List (List ℕ)) (d : ClosedView) (h : HasServed parts callers shards names d) → reply_text names 0 d.replies ≡ replies_text parts h.file
served_text_is parts callers shards names d h =
    ap (λ (ns : List (List ℕ)). reply_text ns 0 d.replies) h.names_are
    ∙ ap (λ (rs : List Reply). reply_text (all_names_of parts) 0 rs) h.done.replies
    ∙ ap (λ (z : Session). reply_text (all_names_of parts) 0 (serial_replies z z.requests)) h.session_is

pub served_through : (c : Command) (input : List ℕ) (callers shards : ℕ) (names : List (List ℕ)) (d : ClosedView) (h : HasServed (parts_of input) callers shards names d) → d.callers ≡ callers_of c → d.shards ≡ shards_of c → IsServedThrough c input d
served_through c input callers shards names d h a b = record {
  file = h.file;
  is_session = h.is_session;
  script = h.script;
  script_is = h.script_is;
  session_is = h.session_is;
  done = h.done;
  callers_are = a;
  shards_are = b;
}

-- the text of the final tables of what was served
dumped_text_is : (parts : Parts) (callers shards : ℕ) (names : List (List ℕ)) (d : ClosedView) (h : HasServed parts callers shards names d) → AreFinal d (length h.file.tables) → dump_text names h.file.tables (final_lists d (length h.file.tables)) ≡ tables_text parts h.file
dumped_text_is parts callers shards names d h left =
    let same : Tables → List ℕ = λ (ts : Tables). table_text (texts_of (all_names_of parts) h.file.tables) (map (written_table (all_names_of parts)) ts) in
    let shape : List TableKind = shape_of h.file in
    ap (λ (ns : List (List ℕ)). dump_text ns h.file.tables (final_lists d (length h.file.tables))) h.names_are
    ∙ ap same (ap (λ (n : ℕ). tables_of shape (final_lists d n)) (sym (length-map h.file.tables (λ (t : TableDecl). t.kind))))
    ∙ ap same (final_of h.script d h.done shape (sym (ap (λ (z : Session). z.shape) h.session_is)) (subst (AreFinal d) (sym (length-map h.file.tables (λ (t : TableDecl). t.kind))) left))
    ∙ ap (λ (z : Session). same (tables_before z z.requests)) h.session_is
  where
    final_of : (m : Meaning) (d : ClosedView) (done : IsDone m d) (shape : List TableKind) → shape ≡ m.shape → AreFinal d (length shape) → tables_of shape (final_lists d (length shape)) ≡ tables_before (session_of m) m.requests
    final_of m d done shape is left =
        ap (λ (s : List TableKind). tables_of s (final_lists d (length s))) is
        ∙ final_tables d m done (subst (λ (s : List TableKind). AreFinal d (length s)) is left)

-- what was written, where it was written whole
took : {O : Type 0} (out : Change O) (s : Status) (text : List ℕ) → EndsBy text out s → s ≡ status.Fine → WroteAll out text
took out status.Fine text e h = e
took out status.WriteFault text e h = absurd (cc)
took out (status.Refused f) text e h = absurd e
took out status.Usage text e h = absurd e
took out status.NoMemory text e h = absurd e
took out status.ReadFault text e h = absurd e

-- and a front of it, where the sink failed
took_front : {O : Type 0} (out : Change O) (s : Status) (text : List ℕ) → EndsBy text out s → s ≡ status.WriteFault → WrotePrefix out text
took_front out status.Fine text e h = absurd (cc)
took_front out status.WriteFault text e h = e.1
took_front out (status.Refused f) text e h = absurd e
took_front out status.Usage text e h = absurd e
took_front out status.NoMemory text e h = absurd e
took_front out status.ReadFault text e h = absurd e

-- ---- a command that is answered by serving an input
module _ {O : Type 0} (command : Command) (w : Writing) (callers shards : ℕ) (bytes input : List ℕ) (out : Change O) where
  -- what is asked of the command
  record Serves : Type 0 where
    pub requests : serves_one command ≡ true
    pub own : input ≡ input_of command bytes
    pub opens : (s : Status) (d : ClosedView) → has_begun_writing s ≡ true → Opens (Some command) bytes s (Some d)
    pub left : (s : Status) (d : ClosedView) → IsServedThrough command input d → IsLeft command input out s d
    pub traced : (s : Status) (d : ClosedView) → EndsServed w callers shards input out s d → WroteJournal (Some command) bytes out s (Some d)
    pub callers_are : callers_of command ≡ callers
    pub shards_are : shards_of command ≡ shards
    pub text : (names : List (List ℕ)) (d : ClosedView) (h : HasServed (parts_of input) callers shards names d) → HasLeft w names h.file d → IsTextOf command input (text_of w names h.file d)

  module _ (v : Serves) where
    served_to : (s : Status) (d : ClosedView) → EndsServed w callers shards input out s d → AnswersTo command bytes out s (Some d)
    served_to s d e =
        let text = text_of w e.names e.served.file d in
        let through = served_through command input callers shards e.names d e.served (e.served.callers_are ∙ sym v.callers_are) (e.served.shards_are ∙ sym v.shards_are) in
        ends_to command bytes out text
        (subst (IsInput command) v.own (session_input command input v.requests e.is_input))
        (subst (λ (bs : List ℕ). IsTextOf command bs text) v.own (v.text e.names d e.served e.left))
        s (Some d) e.ends
        (v.opens s d (begins out s text e.ends))
        (subst (λ (bs : List ℕ). IsLeft command bs out s d) v.own (v.left s d through))
        (v.traced s d e)

    unserved_to : (e : LoadError) → IsUntouched out → IsInputReason input e → AnswersTo command bytes out (status_of e) None
    unserved_to e same r = reason_to command bytes out same e (subst (λ (bs : List ℕ). IsReason command bs e) v.own (input_reason command input e v.requests r))

    answers_served : (s : Status) (closed : Option ClosedView) → EndsSession w callers shards input out s closed → AnswersTo command bytes out s closed
    answers_served s None e = subst (λ (s : Status). AnswersTo command bytes out s None) (sym e.is) (unserved_to e.reason e.same e.why)
    answers_served s (Some d) e = served_to s d e

-- ---- `serve`, `dump`, `trace`
module _ {O : Type 0} (callers shards : ℕ) (bytes : List ℕ) (out : Change O) where
  serves_replies : Serves (Serve callers shards) Replies callers shards bytes bytes out
  serves_replies = record {
    requests = refl;
    own = refl;
    opens = λ s d b. sym b;
    left = λ s d h. h;
    traced = λ s d e w _. absurd (false≢true w);
    callers_are = refl;
    shards_are = refl;
    text = λ names d h left. record { file = h.file; is_session = h.is_session; text_is = served_text_is (parts_of bytes) callers shards names d h };
  }

  serves_tables : Serves (Dump callers shards) (AtEnd FinalTables) callers shards bytes bytes out
  serves_tables = record {
    requests = refl;
    own = refl;
    opens = λ s d b. sym b;
    left = λ s d h. h;
    traced = λ s d e w _. absurd (false≢true w);
    callers_are = refl;
    shards_are = refl;
    text = λ names d h left. record { file = h.file; is_session = h.is_session; text_is = dumped_text_is (parts_of bytes) callers shards names d h left };
  }

  -- what becomes of the session is what they answer
  pub serve_answers : (s : Status) (closed : Option ClosedView) → EndsSession Replies callers shards bytes out s closed → AnswersTo (Serve callers shards) bytes out s closed
  serve_answers s closed e = answers_served (Serve callers shards) Replies callers shards bytes bytes out serves_replies s closed e

  pub dump_answers : (s : Status) (closed : Option ClosedView) → EndsSession (AtEnd FinalTables) callers shards bytes out s closed → AnswersTo (Dump callers shards) bytes out s closed
  dump_answers s closed e = answers_served (Dump callers shards) (AtEnd FinalTables) callers shards bytes bytes out serves_tables s closed e

  module _ (few : callers ≤ max_callers) where
    traced_text_is : (names : List (List ℕ)) (d : ClosedView) (h : HasServed (parts_of bytes) callers shards names d) → trace_text names (table_places h.file) d.journal ≡ traced_text (parts_of bytes) h.file d.journal
    traced_text_is names d h = ap (λ (ns : List (List ℕ)). trace_text ns (table_places h.file) d.journal) h.names_are

    is_traced : (names : List (List ℕ)) (d : ClosedView) (h : HasServed (parts_of bytes) callers shards names d) → CanBeTold names h.file d.journal → IsTraced bytes (trace_text names (table_places h.file) d.journal)
    is_traced names d h left = record {
      file = h.file;
      is_session = h.is_session;
      events = d.journal;
      accepted = subst (λ (z : Session). Accepted (bare_script z) d.journal) h.session_is (accepted_done h.script d h.done (subst (λ (n : ℕ). n ≤ max_callers) (sym h.callers_are) few));
      told = subst (λ (ns : List (List ℕ)). CanBeTold ns h.file d.journal) h.names_are left;
      text_is = traced_text_is names d h;
    }

    wrote : (s : Status) (d : ClosedView) → EndsServed (AtEnd Events) callers shards bytes out s d → WroteJournal (Some (Trace callers shards)) bytes out s (Some d)
    wrote s d e = λ w begun. record {
      file = e.served.file;
      is_session = e.served.is_session;
      took = λ fine. subst (WroteAll out) (traced_text_is e.names d e.served) (took out s (text_of (AtEnd Events) e.names e.served.file d) e.ends fine);
      front = λ failed. subst (WrotePrefix out) (traced_text_is e.names d e.served) (took_front out s (text_of (AtEnd Events) e.names e.served.file d) e.ends failed);
    }

    serves_events : Serves (Trace callers shards) (AtEnd Events) callers shards bytes bytes out
    serves_events = record {
      requests = refl;
      own = refl;
      opens = λ s d b. sym b;
      left = λ s d h. h;
      traced = wrote;
      callers_are = refl;
      shards_are = refl;
      text = is_traced;
    }

    pub trace_answers : (s : Status) (closed : Option ClosedView) → EndsSession (AtEnd Events) callers shards bytes out s closed → AnswersTo (Trace callers shards) bytes out s closed
    trace_answers s closed e = answers_served (Trace callers shards) (AtEnd Events) callers shards bytes bytes out serves_events s closed e

-- ---- `work`
module _ {O : Type 0} (requests start : ℕ) (bytes : List ℕ) (out : Change O) where
  abbrev made : List ℕ
  made = input_of (Work requests start) bytes

  summary_is : (names : List (List ℕ)) (d : ClosedView) (h : HasServed (parts_of made) 4 4 names d) → summary requests (length (done_operations d.journal)) (length (reply_text names 0 d.replies)) ≡ summary requests (serial_calls (session_of_parts (parts_of made) h.file) (session_of_parts (parts_of made) h.file).requests) (length (replies_text (parts_of made) h.file))
  summary_is names d h =
      let calls = calls_done h.script d h.done ∙ ap (λ (z : Session). serial_calls z z.requests) h.session_is in
      ap (λ (n : ℕ). summary requests n (length (reply_text names 0 d.replies))) calls
      ∙ ap (λ (t : List ℕ). summary requests (serial_calls (session_of_parts (parts_of made) h.file) (session_of_parts (parts_of made) h.file).requests) (length t)) (served_text_is (parts_of made) 4 4 names d h)

  serves_made : Serves (Work requests start) (AtEnd (Summary requests)) 4 4 bytes made out
  serves_made = record {
    requests = refl;
    own = refl;
    opens = λ s d b. sym b;
    left = λ s d h. h;
    traced = λ s d e w _. absurd (false≢true w);
    callers_are = refl;
    shards_are = refl;
    text = λ names d h left. record { file = h.file; is_session = h.is_session; text_is = summary_is names d h };
  }

  -- what becomes of the made session is what `work` answers
  pub work_answers : (s : Status) (closed : Option ClosedView) → EndsSession (AtEnd (Summary requests)) 4 4 made out s closed → AnswersTo (Work requests start) bytes out s closed
  work_answers s closed e = answers_served (Work requests start) (AtEnd (Summary requests)) 4 4 bytes made out serves_made s closed e
