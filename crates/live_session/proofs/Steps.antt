-- A session with one line more that was served.
use Rattle.std.proofs.Common.{◌≡◌, ℕ, suc, ◌+◌, ◌≤◌, List, [], ◌∷◌, ◌++◌, length, map, None, refl, sym, ◌∙◌, ap, subst, arith}
use Rattle.std.proofs.lemmas.List.{map-append}
use Rattle.std.specs.List.{AllByRecursion}
use Rattle.session_values.specs.Dialogue.{Entry, Follows}
use Rattle.session_values.specs.Names.{Begins}
use Rattle.session_values.specs.Reply.{values_of as reply_values}
use Rattle.session_values.specs.ReplyText.{IsPrintable}
use Rattle.session_values.specs.Serial.{Served, serve}
use Rattle.session_values.specs.Tables.{Tables}
use Rattle.session_values.specs.Values.{IsValue}
use Rattle.session_values.specs.declared.reply.Reply.{Reply}
use Rattle.session_values.specs.declared.value.Value.{Value}
use Rattle.session_values.proofs.Named.{begins_same, begins_then}
use Rattle.symbolic_ops.specs.Matching.{Matches}
use Rattle.session_values.specs.Opening.{tables_of}
use Rattle.session_journal.specs.Journal.{Replays, run}
use Rattle.session_journal.specs.Script.{Covers}
use Rattle.session_journal.proofs.Serial.{GoesOn, goes_on, matched}
use Rattle.handler_check.specs.File.{File}
use Rattle.handler_check.specs.Mentions.{file_mentions}
use Rattle.serve_faults.specs.Language.{IsNamedFile}
use Rattle.serve_faults.specs.Printable.{IsPrintableTable}
use Rattle.serve_reading.proofs.TextsKept.{texts_kept}
use Rattle.handler_check.specs.Bounds.{calls_bound}
use Rattle.handler_check.specs.Dialogue.{env_of, next}
use Rattle.handler_check.specs.Resolved.{code_at, shape_of}
use Rattle.handler_check.proofs.Bounded.{ends_by}
use Rattle.declaration_insertion.specs.Promises.{ArePromised}
use Rattle.declaration_insertion.specs.Program.{declared_at}
use Rattle.declaration_insertion.proofs.Programs.{program_promised}
use Rattle.text_lines.specs.Rows.{Row, names_behind, row_of}
use Rattle.text_lines.specs.Text.{Text, words}
use Rattle.text_lines.specs.Values.{placed_all, values_of}
use Rattle.text_lines.proofs.PrintableLemmas.{values_held, values_printable}
use Rattle.text_lines.proofs.ValueLemmas.{placed_all_begins}
use Rattle.request_files.specs.declared.request.Request.{Request}
use Rattle.request_files.specs.Requests.{handler_of, request_of}
use Rattle.request_files.proofs.HandlerLemmas.{handler_kept}
use Rattle.driven_tickets.specs.Acts.{Act}
use Rattle.driven_tickets.specs.Commuting.{IsClear}
use Rattle.driven_tickets.specs.Desk.{IsDesk, TicketsView}
use Rattle.driven_tickets.specs.Tickets.{AreAscending}
use Rattle.driven_tickets.proofs.Requests.{desk_passed}
use Rattle.live_session.specs.Answers.{LineServed, reply_line, request_in}
use Rattle.live_session.specs.Entries.{acts_of, entry_list}
use Rattle.live_session.specs.Live.{IsLive, IsUndriven, LiveView, desk_in, program_in, requests_in, rows_in}
use Rattle.live_session.specs.Served.{AreServed, IsServed, fault_at, line_fault}
use Rattle.live_session.proofs.Alone.{served_push}
use Rattle.live_session.proofs.Lines.{all_push, behind_push, requests_kept, rows_push}
use Rattle.live_session.proofs.OneRow.{Ran}
use Rattle.live_session.proofs.Said.{IsSaid, run_said, tables_kept}

-- the tickets when the next one was a request's, with these acts
abbrev pub passed : TicketsView → List Act → TicketsView
passed k acts = record { next = suc k.next; tickets = k.tickets; acts = k.acts ++ acts }

module _ (v : LiveView) (live : IsLive v) (most : v.most_names ≤ 4000000000) (line name : Text) (ws : List Text) (is : words line ≡ name ∷ ws) (new : List Text) (vals : List Value) (h : ℕ) (reply : Reply) (after : Tables)
    (one : Ran v name ws new vals h reply after) (l : TicketsView) (acts : l ≡ passed v.tickets (acts_of (program_in v) v.tickets.next h vals v.tables)) (asc : AreAscending 0 l.tickets l.next) where
  abbrev f : File
  f = v.file

  abbrev first : List Text
  first = v.first_names

  abbrev pub onward : LiveView
  onward = record v { names = new; tables = after; tickets = l; lines = v.lines ++ line ∷ []; replies = v.replies ++ reply ∷ [] }

  abbrev made : Request
  made = request_of v.names new f (row_of 0 name ws)

  made_is : ◌≡◌ {A = Request} (record { handler = h; args = vals }) made
  unfolding request_of
  made_is = λ i. record { handler = one.ok.handler i; args = one.ok.args_are i }

  here : IsServed f made v.tables reply after
  here = subst (λ (q : Request). IsServed f q v.tables reply after) made_is (record { answer = one.answer; tables_are = one.left })

  begins : Begins v.names new
  begins = subst (Begins v.names) (sym one.ok.names_are) (placed_all_begins v.names ws)

  first_new : Begins first new
  first_new = begins_then first v.names new live.begins begins

  abbrev row : Row
  row = row_of (0 + length v.lines) name ws

  rows_are : rows_in onward ≡ rows_in v ++ row ∷ []
  rows_are = rows_push line name ws is 0 v.lines

  handler_same : handler_of v.names f name ≡ handler_of first f name
  handler_same = handler_kept first v.names f name live.begins live.known

  last_is : request_of first new f row ≡ made
  unfolding request_of
  last_is = ap (λ (n : ℕ). record { handler = n; args = values_of new ws }) (sym handler_same)

  -- ---- where the program did nothing itself
  module _ (alone : IsUndriven v) where
    before_same : map (request_of first new f) (rows_in v) ≡ requests_in v
    before_same = requests_kept first first v.names new f (rows_in v) (subst (λ (ns : List Text). Begins ns v.names) (live.names_are alone) (begins_same v.names)) begins

    requests_are : requests_in onward ≡ requests_in v ++ made ∷ []
    requests_are =
        ap (map (request_of first new f)) rows_are ∙ map-append (request_of first new f) (rows_in v) (row ∷ [])
        ∙ (λ i. before_same i ++ last_is i ∷ [])

    served_on : AreServed f (tables_of (shape_of f) v.opened) (requests_in onward) onward.replies after
    served_on =
        subst (λ (rs : List Request). AreServed f (tables_of (shape_of f) v.opened) rs onward.replies after) (sym requests_are)
        (served_push f (tables_of (shape_of f) v.opened) (requests_in v) v.replies v.tables made reply after (live.served alone) here)

    names_on : new ≡ names_behind first (rows_in onward)
    names_on =
        one.ok.names_are ∙ ap (λ (ns : List Text). placed_all ns ws) (live.names_are alone) ∙ sym (behind_push first (rows_in v) row) ∙ sym (ap (names_behind first) rows_are)

  -- ---- its run
  abbrev ran : Served
  ran = serve (calls_bound (code_at f h)) (next (code_at f h) (env_of vals)) v.tables

  goes : GoesOn (calls_bound (code_at f h)) (next (code_at f h) (env_of vals)) v.tables []
  goes = goes_on (calls_bound (code_at f h)) (next (code_at f h) (env_of vals)) v.tables [] (ends_by (code_at f h) (env_of vals)) tt tt

  follows : Follows (next (code_at f h) (env_of vals)) ran.entries
  follows = subst (Follows (next (code_at f h) (env_of vals))) (sym goes.entries) goes.follows

  replays : Replays v.tables ran.entries
  replays = subst (Replays v.tables) (sym goes.entries) goes.replays

  after_is : after ≡ run v.tables ran.entries
  after_is = one.left ∙ goes.after ∙ ap (run v.tables) (sym goes.entries)

  held : AllByRecursion IsValue vals
  held = subst (AllByRecursion IsValue) (sym one.ok.args_are) (values_held v.names ws new one.ok.names_are (omega (arith, one.ok.few, most)))

  promised : ArePromised (code_at f h) (declared_at (program_in v) h) (env_of vals)
  promised = program_promised (program_in v) live.program h one.ok.exists vals held

  covers : Covers (next (code_at f h) (env_of vals)) (entry_list (program_in v) h vals)
  covers = record { each = λ more op values calls. promised.opening more op values calls }

  matches : AllByRecursion (λ (e : Entry). Matches (entry_list (program_in v) h vals) e.op) ran.entries
  matches = matched (next (code_at f h) (env_of vals)) (entry_list (program_in v) h vals) ran.entries covers one.values follows

  desk_after : IsDesk (desk_in onward)
  desk_after =
      desk_passed v.tickets live.desk.ascending (entry_list (program_in v) h vals) one.admitted.clear (tables_of (shape_of f) v.opened) v.tables after l ran.entries live.desk replays matches after_is acts asc

  -- ---- what can be printed
  named : IsNamedFile new f
  named = texts_kept first new first_new (file_mentions f) live.named

  said : IsSaid new ran
  said =
      run_said new f h vals v.tables named
      (subst (AllByRecursion (IsPrintable new)) (sym one.ok.args_are) (values_printable v.names ws new (subst (λ (ns : List Text). Begins ns new) one.ok.names_are (begins_same new))))
      (tables_kept v.names new v.tables begins live.prints)

  pub reply_prints : AllByRecursion (IsPrintable new) (reply_values reply)
  reply_prints = said.answer reply one.answer

  -- ---- what it keeps, and what the line is answered
  pub live_on : IsLive onward
  live_on = record {
    program = live.program;
    accepted = live.accepted;
    opens = live.opens;
    named = live.named;
    known = live.known;
    handlers_below = live.handlers_below;
    handlers_first = live.handlers_first;
    printable = live.printable;
    fine = subst (AllByRecursion (λ (r : Row). line_fault first f r ≡ None)) (sym rows_are)
        (all_push (λ (r : Row). line_fault first f r ≡ None) (rows_in v) row live.fine (ap (fault_at f row) (sym handler_same) ∙ one.ok.fine));
    begins = first_new;
    few = one.ok.few;
    prints = subst (AllByRecursion (IsPrintableTable new)) (sym one.left) said.after;
    seeded = live.seeded;
    desk = desk_after;
    names_are = λ alone. names_on alone;
    served = λ alone. served_on alone;
  }

  abbrev asked : Request
  asked = request_in v (row_of 0 name ws)

  asked_is : ◌≡◌ {A = Request} (record { handler = h; args = vals }) asked
  unfolding request_of
  asked_is = λ i. record { handler = one.ok.handler i; args = (one.ok.args_are ∙ ap (λ (ns : List Text). values_of ns ws) one.ok.names_are) i }

  pub line_served : LineServed v line (row_of 0 name ws) (reply_line new reply) onward
  line_served = record {
    fine = one.ok.fine;
    room = subst (λ (ns : List Text). length ns ≤ v.most_names) one.ok.names_are one.ok.few;
    clear = subst (λ (q : Request). IsClear v.tickets (entry_list (program_in v) q.handler q.args)) asked_is one.admitted.clear;
    numbered = one.admitted.numbered;
    reply = reply;
    served = here;
    text_is = refl;
    names_are = one.ok.names_are;
    lines_are = refl;
    replies_are = refl;
    tickets_are = subst (λ (q : Request). l ≡ passed v.tickets (acts_of (program_in v) v.tickets.next q.handler q.args v.tables)) asked_is acts;
    factors_still = refl;
    driven_still = refl;
    file_still = refl;
    lists_still = refl;
    opened_still = refl;
    first_still = refl;
    handlers_still = refl;
    most_still = refl;
    seed_still = refl;
    generation_still = refl;
  }
