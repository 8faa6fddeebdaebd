-- Each session file has the text of a trace, and each trace part without a fault has that of a
-- verdict.
use Rattle.std.proofs.Common.{◌≡◌, ℕ, ◌+◌, ◌<◌, ◌≤◌, ◌^◌, ◌⊎◌, inl, inr, List, [], ◌∷◌, length, map, Option, Some, None, refl, sym, ap, ◌∙◌, subst, arith}
use Rattle.std.proofs.lemmas.Bool.{cases_lt}
use Rattle.std.specs.List.{AllByRecursion}
use Rattle.session_values.specs.Names.{Begins}
use Rattle.session_values.specs.declared.kind.TableKind.{TableKind}
use Rattle.session_values.proofs.Named.{begins_same, begins_then}
use Rattle.session_values.proofs.Options.{some_none}
use Rattle.session_journal.specs.declared.event.Event.{Event}
use Rattle.session_journal.specs.Script.{IsScript, Meaning}
use Rattle.handler_machine.specs.Scripts.{meaning}
use Rattle.handler_syntax.specs.Language.{File}
use Rattle.handler_check.specs.Resolved.{shape_of}
use Rattle.handler_check.specs.TableDecl.{TableDecl}
use Rattle.text_lines.specs.Rows.{Row}
use Rattle.text_lines.specs.Text.{Text}
use Rattle.request_files.specs.Divide.{is_dividing}
use Rattle.request_files.specs.TracePart.{before_trace, behind_dividing, behind_trace, is_trace_mark, line_behind_trace}
use Rattle.session_journal.specs.Accepted.{Accepted}
use Rattle.session_journal.specs.Bare.{bare_script}
use Rattle.session_journal.specs.Traces.{TraceView, max_events}
use Rattle.session_journal.proofs.Bare.{accepted}
use Rattle.trace_lines.specs.EventRows.{AreKnown, event_fault, first_event_fault, names_after, placed_literal, placed_literals, row_event}
use Rattle.trace_lines.specs.VerdictText.{verdict_text}
use Rattle.trace_lines.specs.declared.refusal.TraceRefusal.{TraceRefusal}
use Rattle.trace_lines.specs.declared.refusal.TraceRefusal.TheVariants.{BadEvent, TooManyEvents}
use Rattle.trace_lines.proofs.Placed.{after_nil, after_step, literal_begins, literals_nil, literals_step}
use Rattle.trace_lines.proofs.Rows.{fault_bad, fault_kept, fault_many, first_step, first_stop, known_kept, row_is}
use Rattle.trace_audit.specs.Deciding.{CanBeJudged}
use Rattle.trace_audit.proofs.Deciding.{some_verdict}
use Rattle.serve_faults.specs.Audited.{IsAudited, audited_parts, event_rows_of, trace_fault}
use Rattle.serve_faults.specs.Input.{Parts, parts_of}
use Rattle.serve_faults.specs.Session.{IsSession, all_names_of, handler_names_of, opened_of, requests_of, session_of_parts}
use Rattle.serve_faults.specs.Traced.{CanBeTold, IsTraced, table_places, traced_text}
use Rattle.serve_faults.proofs.ToldEvents.{can_be_told}
use Rattle.file_laws.proofs.JudgedRows.{event_judged}
use Rattle.file_laws.proofs.ShortParts.{AreShort, are_short, behind_few}
use Rattle.file_laws.proofs.Room.{after_room, text_total}
use Rattle.file_laws.proofs.SerialTrace.{SerialTrace, serial_trace}
use Rattle.file_laws.proofs.Sessions.{few_all, known, lawful, named_all, old_all, opens_print, requests_print, symbols, view}

-- ---- traces

module _ (parts : Parts) (file : File) (is : IsSession parts file) (few : AreShort parts) where
  abbrev m : Meaning
  m = meaning (view parts file is few.handlers few.tables few.requests)

  script : IsScript m
  script = lawful parts file is few.handlers few.tables few.requests

  abbrev bare : Meaning
  bare = bare_script (session_of_parts parts file)

  record Traced : Type 0 where
    events : List Event
    accepted_are : Accepted bare events
    told : CanBeTold (all_names_of parts) file events

  traced : Traced
  traced =
      let t : SerialTrace m = serial_trace m script in
      let a : Accepted bare t.events = accepted m t.events t.accepted in
      record {
        events = t.events;
        accepted_are = a;
        told = can_be_told (all_names_of parts) file (named_all parts file is) (symbols parts file is).each (opened_of parts file) (requests_of parts file)
            (opens_print parts file is few.handlers few.tables few.requests) (requests_print parts file is few.handlers few.tables few.requests)
            script.fits t.events a.allowed t.held t.known;
      }

pub some_trace : (input : Text) → length input ≤ 4194304 → (file : File) → IsSession (parts_of input) file → (text : Text) × IsTraced input text
some_trace input short file is =
    let t = traced (parts_of input) file is (are_short input short) in
    (traced_text (parts_of input) file t.events, record { file = file; is_session = is; events = t.events; accepted = t.accepted_are; told = t.told; text_is = refl })

-- ---- the names behind lines

literals_begin : (names ws : List Text) → Begins names (placed_literals names ws)
literals_begin names [] = subst (Begins names) (sym (literals_nil names)) (begins_same names)
literals_begin names (w ∷ ws) = subst (Begins names) (sym (literals_step names w ws)) (begins_then _ _ _ (literal_begins names w) (literals_begin (placed_literal names w) ws))

after_begin : (names : List Text) (rs : List Row) → Begins names (names_after names rs)
after_begin names [] = subst (Begins names) (sym (after_nil names)) (begins_same names)
after_begin names (r ∷ rs) = subst (Begins names) (sym (after_step names r rs)) (begins_then _ _ _ (literals_begin names r.args) (after_begin (placed_literals names r.args) rs))

places_known : (names : List Text) (ds : List TableDecl) → AllByRecursion (λ (d : TableDecl). d.name < length names) ds → AreKnown names (map (λ (d : TableDecl). d.name) ds)
places_known names [] h = tt
places_known names (d ∷ ds) h = (h.0, places_known names ds h.1)

-- ---- the events of lines without a fault

module _ (names : List Text) (few : length names < 2 ^ 32) (tables : List ℕ) (shape : List TableKind) where
  record Events (rs : List Row) : Type 0 where
    events : List Event
    are : map (row_event names tables shape) rs ≡ map (λ (e : Event). Some e) events
    judged : AllByRecursion CanBeJudged events

  row_fine : (seen : ℕ) (r : Row) → event_fault names tables shape seen r ≡ None → (o : Option Event) → row_event names tables shape r ≡ o → (e : Event) × (row_event names tables shape r ≡ Some e)
  row_fine seen r fine (Some e) h = (e, h)
  row_fine seen r fine None h = absurd (bad (cases_lt seen max_events))
    where
      bad : (seen < max_events) ⊎ (max_events ≤ seen) → ⊥
      bad (inl l) = some_none (BadEvent r.line) (sym (fault_bad names tables shape seen r l h) ∙ fine)
      bad (inr l) = some_none (TooManyEvents r.line) (sym (fault_many names tables shape seen r l) ∙ fine)

  events : (seen : ℕ) (rs : List Row) → first_event_fault names tables shape seen rs ≡ None → Events rs
  events seen [] fine = record { events = []; are = refl; judged = tt }
  events seen (r ∷ rs) fine = by (event_fault names tables shape seen r) refl (λ e. events (seen + 1) rs e)
    where
      by : (o : Option TraceRefusal) → event_fault names tables shape seen r ≡ o → (first_event_fault names tables shape (seen + 1) rs ≡ None → Events rs) → Events (r ∷ rs)
      by (Some x) h again = absurd (some_none x (sym (first_stop names tables shape seen r rs x h) ∙ fine))
      by None h again =
          let here = row_fine seen r h (row_event names tables shape r) refl in
          let more = again (sym (first_step names tables shape seen r rs h) ∙ fine) in
          record {
            events = here.0 ∷ more.events;
            are = ap (λ (o : Option Event). o ∷ map (row_event names tables shape) rs) here.1 ∙ ap (λ (os : List (Option Event)). Some here.0 ∷ os) more.are;
            judged = (event_judged names few tables shape (r.name ∷ r.args) here.0 (sym (row_is names tables shape r) ∙ here.1), more.judged);
          }

-- ---- verdicts

module _ (input : Text) (short : length input ≤ 67108864) (before : length (before_trace input) ≤ 4194304) (file : File) (is : IsSession (audited_parts input) file) (fine : trace_fault input file ≡ None) where
  abbrev old : List Text
  old = all_names_of (audited_parts input)

  abbrev new : List Text
  new = names_after old (event_rows_of input)

  few_new : length new < 2 ^ 32
  few_new =
      let few : AreShort (audited_parts input) = are_short (before_trace input) before in
      let all : length old ≤ 12582912 = few_all (audited_parts input) file is few.handlers few.tables few.requests in
      omega (arith, after_room old (event_rows_of input), all, text_total (line_behind_trace input) (behind_trace input), behind_few is_trace_mark (behind_dividing input), behind_few is_dividing input, short)

  old_known : AreKnown old (table_places file)
  old_known = known_kept (handler_names_of (audited_parts input)) old (table_places file) (old_all (audited_parts input) file is) (places_known (handler_names_of (audited_parts input)) file.tables (known (audited_parts input) file is))

  fine_new : first_event_fault new (table_places file) (shape_of file) 0 (event_rows_of input) ≡ None
  fine_new = sym (fault_kept old new (table_places file) (shape_of file) (after_begin old (event_rows_of input)) old_known 0 (event_rows_of input)) ∙ fine

  read : Events new few_new (table_places file) (shape_of file) (event_rows_of input)
  read = events new few_new (table_places file) (shape_of file) 0 (event_rows_of input) fine_new

  abbrev trace : TraceView
  trace = record { events = read.events; lines = map (λ (r : Row). r.line) (event_rows_of input) }

  pub some_audit : (text : Text) × IsAudited input text
  some_audit =
      let v = some_verdict (bare_script (session_of_parts (audited_parts input) file)) read.events read.judged in (
        verdict_text trace v.0,
        record {
          file = file;
          is_session = is;
          names = new;
          trace = trace;
          is_trace = record { fine = fine; names = refl; events = read.are; lines = refl };
          verdict = v.0;
          is_verdict = v.1;
          text_is = refl;
        },
      )
