-- What `clients` answers, from what was loaded, served in rounds and written.
use Rattle.std.proofs.Common.{◌≡◌, ℕ, zero, suc, ◌≤◌, Bool, ◌&&◌, true, false, nat_lt, is_some, List, [], ◌∷◌, length, sum, Option, Some, None, refl, sym, ap, ◌∙◌, subst, arith}
use Rattle.std.proofs.lemmas.List.{length-map}
use Rattle.session_values.specs.Limits.{max_requests}
use Rattle.session_values.specs.declared.reply.Reply.{Reply}
use Rattle.session_values.specs.Serial.{Session, serial, serial_replies}
use Rattle.session_values.proofs.Serial.{serial_length}
use Rattle.session_journal.specs.Opening.{Pair}
use Rattle.session_journal.proofs.Serial.{serve_answers}
use Rattle.handler_check.proofs.Bounded.{ends_by}
use Rattle.handler_check.specs.Dialogue.{env_of}
use Rattle.handler_check.specs.Resolved.{code_at}
use Rattle.serve_faults.specs.Language.{File}
use Rattle.session_hall.specs.Closings.{ClosedView}
use Rattle.reply_sheet.specs.Printable.{ArePrintableReplies}
use Rattle.request_files.specs.declared.request.Request.{Request}
use Rattle.request_files.specs.Picked.{picked}
use Rattle.request_files.specs.Requests.{ArePrintable, request_of}
use Rattle.request_files.specs.Session.{request_at, session}
use Rattle.reply_sheet.specs.declared.arrival.Arrival.{Arrival}
use Rattle.reply_sheet.specs.Arrivals.{IsDrawn}
use Rattle.reply_sheet.specs.ClientText.{clients_text}
use Rattle.reply_sheet.specs.Numbers.{numbers_of}
use Rattle.client_feed.specs.Rounds.{AreRounds, AreServed, ServedView, last_hall, session_by}
use Rattle.client_feed.proofs.Halls.{some_hall}
use Rattle.serve_words.specs.declared.command.Command.TheVariants.{Clients}
use Rattle.serve_faults.specs.declared.status.Status.{Status}
use Rattle.serve_faults.specs.declared.status.Status.TheVariants as status
use Rattle.byte_ends.specs.Changes.{Change, Failed, WroteAll, WrotePrefix}
use Rattle.serve_faults.specs.Clients.{IsClientsText, client_counts, session_of_arrivals}
use Rattle.serve_faults.specs.Input.{IsInput, client_parts}
use Rattle.serve_faults.specs.Session.{IsSession, all_names_of, opened_of, opening_names_of, requests_of, rows_of}
use Rattle.serve_faults.proofs.PrintableRuns.{replies_said}
use Rattle.serve_reading.specs.Clients.{IsLoadedClients, joined}
use Rattle.serve_reading.specs.declared.clients.LoadedClients.{LoadedClients}
use Rattle.serve_reading.proofs.Loading.{as_program}
use Rattle.std.proofs.lemmas.Bool.{false≢true}
use Rattle.serve_core.specs.Commands.{has_begun_writing}
use Rattle.serve_core.specs.Arriving.{CanServeClients, EndsClients}
use Rattle.serve_core.specs.Replied.{text_of_arrivals}
use Rattle.serve_core.specs.Runs.{AnswersTo, Holds, Opens}
use Rattle.serve_single.specs.Serving.{EndsBy}
use Rattle.serve_core.proofs.EndLemmas.{ends_to, memory_to}
use Rattle.serve_single.proofs.FileLemmas.{can_serve}

-- what was loaded can be served
pub can_gather : (input : List ℕ) (l : LoadedClients) → IsLoadedClients input l → CanServeClients l
can_gather input l h = record { can = can_serve (client_parts input) (joined l) h.is_session; room = (let few = h.few in omega (arith, few)); shared = h.shared }

-- ---- replies

-- the requests that are picked can be printed, whatever their numbers
at_printable : (names : List (List ℕ)) (rs : List Request) (n : ℕ) → ArePrintable names rs → ArePrintable names (request_at rs n ∷ [])
at_printable names [] n h = (tt, tt)
at_printable names (r ∷ rs) zero h = (h.0, tt)
at_printable names (r ∷ rs) (suc n) h = at_printable names rs n h.1

picked_print : (names : List (List ℕ)) (rs : List Request) (ns : List ℕ) → ArePrintable names rs → ArePrintable names (picked rs ns)
picked_print names rs [] h = tt
picked_print names rs (n ∷ ns) h = ((at_printable names rs n h).0, picked_print names rs ns h)

-- so what was served can be
pub served_print : (l : LoadedClients) (callers shards : ℕ) (v : ServedView) → CanServeClients l → AreServed l.program l.opening l.clients callers shards v → ArePrintableReplies l.names v.replies
served_print l callers shards v can a =
    subst (ArePrintableReplies l.names) (sym a.replies)
    (replies_said l.names l.program.file l.opening (picked l.clients.requests (numbers_of l.clients.counts v.arrivals)) can.can.named can.can.printable_opening (picked_print l.names l.clients.requests (numbers_of l.clients.counts v.arrivals) can.can.printable) (length v.arrivals))

-- a reply for each arrival
each_answers : (file : File) (opened : List (List Pair)) (rs : List Request) (t : ℕ) → (r : Reply) × ((serial (session file opened rs) t).answer ≡ Some r)
each_answers file opened rs t = serve_answers _ _ _ (ends_by (code_at file (request_at rs t).handler) (env_of (request_at rs t).args))

pub served_long : (l : LoadedClients) (callers shards : ℕ) (v : ServedView) → AreServed l.program l.opening l.clients callers shards v → length v.arrivals ≡ length v.replies
served_long l callers shards v a =
    let rs : List Request = picked l.clients.requests (numbers_of l.clients.counts v.arrivals) in
    sym (ap (λ (xs : List Reply). length xs) a.replies ∙ serial_length (session l.program.file l.opening rs) (each_answers l.program.file l.opening rs) (length v.arrivals))

-- and no more than there may be
pub served_few : (l : LoadedClients) (callers shards : ℕ) (v : ServedView) → CanServeClients l → AreServed l.program l.opening l.clients callers shards v → length v.replies ≤ max_requests
served_few l callers shards v can a = let long = served_long l callers shards v a in let all = a.all in let shared = can.shared.all in let few = can.can.servable.few in omega (arith, long, all, shared, few)

-- the lines were written, or a front of them
module _ {O : Type 0} (callers shards : ℕ) (l : LoadedClients) (out : Change O) (v : ServedView) (a : AreServed l.program l.opening l.clients callers shards v) (closed : Option ClosedView) (is : closed ≡ v.closed) where
  pub lines_written : WroteAll out (clients_text l.names v.arrivals v.replies (length l.clients.counts)) → EndsClients callers shards l out status.Fine closed
  lines_written took = record { served = v; are = a; closed_is = is; written = took }

  pub lines_front : Failed out → WrotePrefix out (clients_text l.names v.arrivals v.replies (length l.clients.counts)) → EndsClients callers shards l out status.WriteFault closed
  lines_front failed took = (failed, record { served = v; are = a; closed_is = is; written = took })

-- ---- what is answered
module _ {O : Type 0} (callers shards : ℕ) (input : List ℕ) (out : Change O) (l : LoadedClients) (i : IsInput (Clients callers shards) input) (h : IsLoadedClients input l) where
  abbrev file : File
  file = l.program.file

  abbrev is_session : IsSession (client_parts input) file
  is_session = record { program = as_program (client_parts input).handlers l.program h.is_session.program_of; tables = h.is_session.tables_fine; requests = h.is_session.fine }

  -- each request is one of a client's
  counts_all : sum (client_counts input) ≡ length (rows_of (client_parts input))
  counts_all =
      sym (ap (λ (cs : List ℕ). sum cs) h.counts_are) ∙ h.shared.all ∙ ap (λ (rs : List Request). length rs) h.is_session.requests_are
      ∙ length-map (rows_of (client_parts input)) (request_of (opening_names_of (client_parts input)) (all_names_of (client_parts input)) file)

  module _ (closed : Option ClosedView) (v : ServedView) (a : AreServed l.program l.opening l.clients callers shards v) where
    abbrev got : List Arrival
    got = v.arrivals

    session_is : session_by l.program l.opening l.clients got ≡ session_of_arrivals input file got
    session_is = λ j. session file (h.is_session.opening_is j) (picked (h.is_session.requests_are j) (numbers_of (h.counts_are j) got))

    drawn : IsDrawn (client_counts input) got
    drawn = subst (λ (cs : List ℕ). IsDrawn cs got) h.counts_are a.drawn

    all : length got ≡ sum (client_counts input)
    all = a.all ∙ ap (λ (cs : List ℕ). sum cs) h.counts_are

    text_is : clients_text l.names got v.replies (length l.clients.counts) ≡ text_of_arrivals input file got
    text_is =
        ap (λ (ns : List (List ℕ)). clients_text ns got v.replies (length l.clients.counts)) h.is_session.names_are
        ∙ ap (λ (rs : List Reply). clients_text (all_names_of (client_parts input)) got rs (length l.clients.counts)) (a.replies ∙ ap (λ (s : Session). serial_replies s (length got)) session_is)
        ∙ ap (λ (cs : List ℕ). clients_text (all_names_of (client_parts input)) got (serial_replies (session_of_arrivals input file got) (length got)) (length cs)) h.counts_are

    is_text : IsClientsText input (text_of_arrivals input file got)
    is_text = record { file = file; is_session = is_session; got = got; drawn = drawn; all = all; text_is = refl }

    -- the rounds are of the input's session
    rounds_of : (halls : List ClosedView) → AreRounds l.program l.opening l.clients got callers shards halls → AreRounds l.program (opened_of (client_parts input) file) (record { requests = requests_of (client_parts input) file; counts = client_counts input }) got callers shards halls
    rounds_of halls r =
        let one = subst (λ (o : List (List Pair)). AreRounds l.program o l.clients got callers shards halls) h.is_session.opening_is r in
        let two = subst (λ (rs : List Request). AreRounds l.program (opened_of (client_parts input) file) (record { requests = rs; counts = l.clients.counts }) got callers shards halls) h.is_session.requests_are one in
        subst (λ (cs : List ℕ). AreRounds l.program (opened_of (client_parts input) file) (record { requests = requests_of (client_parts input) file; counts = cs }) got callers shards halls) h.counts_are two

    holds : (s : Status) (o : Option ClosedView) → (s ≡ status.Fine → WroteAll out (text_of_arrivals input file got)) → (s ≡ status.WriteFault → WrotePrefix out (text_of_arrivals input file got)) → o ≡ last_hall a.halls → Holds (Some (Clients callers shards)) input out s o
    holds s None took front left = tt
    holds s (Some d) took front left = record { file = file; is_session = is_session; got = got; drawn = drawn; all = all; halls = a.halls; rounds = rounds_of a.halls a.rounds; last = left; took = took; front = front }

    and_true : (b c : Bool) → c ≡ true → b ≡ (b && c)
    and_true true c e = sym e
    and_true false c e = refl

    opens : (s : Status) → is_some closed ≡ nat_lt 0 (length got) → has_begun_writing s ≡ true → Opens (Some (Clients callers shards)) input s closed
    opens s e b = e ∙ ap (λ (n : ℕ). nat_lt 0 n) (all ∙ counts_all) ∙ and_true (nat_lt 0 (length (rows_of (client_parts input)))) (has_begun_writing s) b

    answered : (s : Status) → closed ≡ v.closed → EndsBy (clients_text l.names got v.replies (length l.clients.counts)) out s → has_begun_writing s ≡ true → (s ≡ status.Fine → WroteAll out (text_of_arrivals input file got)) → (s ≡ status.WriteFault → WrotePrefix out (text_of_arrivals input file got)) → AnswersTo (Clients callers shards) input out s closed
    answered s closed_is e b took front =
        ends_to (Clients callers shards) input out (text_of_arrivals input file got) i is_text s closed
        (subst (λ (t : List ℕ). EndsBy t out s) text_is e)
        (opens s (ap is_some (closed_is ∙ a.left) ∙ some_hall l.program l.opening l.clients callers shards got a.halls a.rounds) b)
        (holds s closed took front (closed_is ∙ a.left))
        (λ w _. absurd (false≢true w))

  -- what becomes of what was loaded is what `clients` answers
  pub gathered_to : (s : Status) (closed : Option ClosedView) → EndsClients callers shards l out s closed → AnswersTo (Clients callers shards) input out s closed
  gathered_to status.Fine closed e = answered closed e.served e.are status.Fine e.closed_is e.written refl (λ _. subst (WroteAll out) (text_is closed e.served e.are) e.written) (λ f. absurd (cc))
  gathered_to status.WriteFault closed e = answered closed e.1.served e.1.are status.WriteFault e.1.closed_is (e.0, e.1.written) refl (λ f. absurd (cc)) (λ _. subst (WrotePrefix out) (text_is closed e.1.served e.1.are) e.1.written)
  gathered_to status.NoMemory closed e = subst (λ (o : Option ClosedView). AnswersTo (Clients callers shards) input out status.NoMemory o) (sym e.1) (memory_to (Clients callers shards) input out e.0)
  gathered_to (status.Refused f) closed e = absurd e
  gathered_to status.Usage closed e = absurd e
  gathered_to status.ReadFault closed e = absurd e
