-- Each command has an answer to each input, or has to write what the events of a session tell.
use Rattle.std.proofs.Common.{◌≡◌, ℕ, ◌<◌, ◌≤◌, ◌⊎◌, inl, inr, Bool, true, false, List, [], length, Option, Some, None, refl, sym, ◌∙◌}
use Rattle.std.specs.Prelude.{IsUtf8, nat_le, if◌then◌else◌}
use Rattle.std.specs.Str.{is_utf8}
use Rattle.std.proofs.lemmas.Bool.{cases_lt, false≢true}
use Rattle.std.proofs.lemmas.Str.{IsUtf8-from_is_utf8, is_utf8-from_IsUtf8}
use Rattle.session_values.specs.Limits.{max_input}
use Rattle.trace_lines.specs.declared.refusal.TraceRefusal.{TraceRefusal}
use Rattle.handler_syntax.specs.Language.{names_of, File, SyntaxRefusal, IsSourceOf, HasFault, canonical_text}
use Rattle.handler_syntax.proofs.Facts.{file_or_fault, fault_certain}
use Rattle.handler_syntax.proofs.Rising.{places_rise}
use Rattle.handler_check.specs.declared.refusal.CheckRefusal.{CheckRefusal}
use Rattle.handler_check.specs.Checking.{IsAccepted, IsRefusal}
use Rattle.handler_check.proofs.ExcessLemmas.{some_answer}
use Rattle.may_use_analysis.specs.Later.{HasAnswer as IsAnalysed}
use Rattle.may_use_analysis.proofs.Answered.{answered}
use Rattle.range_tables.specs.declared.refusal.RangeRefusal.{RangeRefusal}
use Rattle.range_tables.specs.Faults.{text_fault}
use Rattle.range_tables.proofs.SomeText.{some_text}
use Rattle.request_files.specs.declared.refusal.RequestRefusal.{RequestRefusal}
use Rattle.table_lines.specs.declared.refusal.TableRefusal.{TableRefusal}
use Rattle.serve_words.specs.declared.command.Command.{Command}
use Rattle.serve_words.specs.declared.command.Command.TheVariants.{Check, Show, Serve, Dump, Work, Ranges, Trace, Audit, Clients}
use Rattle.serve_words.specs.Commands.{command_of}
use Rattle.serve_faults.specs.declared.status.Fault.{Fault}
use Rattle.serve_faults.specs.declared.status.Fault.TheVariants as fault
use Rattle.serve_faults.specs.Commands.{input_of, has_handlers, has_requests}
use Rattle.serve_faults.specs.Audited.{audited_parts, trace_fault}
use Rattle.serve_faults.specs.Clients.{client_counts, session_of_arrivals}
use Rattle.reply_sheet.specs.declared.arrival.Arrival.{Arrival}
use Rattle.reply_sheet.specs.ClientText.{clients_text}
use Rattle.reply_sheet.proofs.InOrder.{in_order, in_order_drawn, in_order_length}
use Rattle.session_values.specs.Serial.{serial_replies}
use Rattle.request_files.specs.TracePart.{before_trace, has_trace}
use Rattle.serve_faults.specs.Input.{parts_in, parts_of, parts_fault, alone_fault, divided_fault, traced_fault, clients_fault, client_marks, client_parts, has_mark, is_divided, handlers_of, max_audit_input, IsInput, IsShort, IsTooLarge}
use Rattle.serve_faults.specs.Session.{IsProgram, IsSession, all_names_of, request_fault, table_fault}
use Rattle.serve_faults.specs.Answer.{Answer, Answers, CommandAnswers, IsAnswer}
use Rattle.serve_faults.specs.Answer as answer

-- The command has to write what events of a session tell: no rule is broken, and its text is that of
-- a trace, or of a verdict.
abbrev pub IsOfEvents : Command → List ℕ → Type 0
IsOfEvents Check input = ⊥
IsOfEvents Show input = ⊥
IsOfEvents (Serve callers shards) input = ⊥
IsOfEvents (Dump callers shards) input = ⊥
IsOfEvents (Work requests start) input = ⊥
IsOfEvents Ranges input = ⊥
IsOfEvents (Trace callers shards) input = IsInput (Trace callers shards) input × (f : File) × IsSession (parts_of input) f
IsOfEvents Audit input = IsInput Audit input × (f : File) × IsSession (audited_parts input) f × (trace_fault input f ≡ None)
IsOfEvents (Clients callers shards) input = ⊥

-- there is an answer, or such a text has to be written
abbrev IsAnswered : Command → List ℕ → Type 0
IsAnswered c input = ((a : Answer) × Answers c input a) ⊎ IsOfEvents c input

-- ---- tables and requests

-- a command that answers to a session answers with a text where no line has a fault
module _ (c : Command) (input : List ℕ) (f : File) (i : IsInput c input) (has : has_requests c ≡ true) (p : IsProgram (parts_in c input).handlers f) (fine : IsSession (parts_in c input) f → IsAnswered c input) where
  of_requests : (o : Option RequestRefusal) → table_fault (parts_in c input) f ≡ None → request_fault (parts_in c input) f ≡ o → IsAnswered c input
  of_requests None t e = fine (record { program = p; tables = t; requests = e })
  of_requests (Some r) t e = inl (answer.Refused (fault.Request r), (i, has, record { file = f; program = p; tables = t; first = e }))

  of_tables : (o : Option TableRefusal) → table_fault (parts_in c input) f ≡ o → IsAnswered c input
  of_tables None e = of_requests (request_fault (parts_in c input) f) e refl
  of_tables (Some r) e = inl (answer.Refused (fault.Tables r), (i, has, record { file = f; program = p; first = e }))

-- a trace part with a fault is refused, and one without is judged
of_trace : (input : List ℕ) (f : File) → IsInput Audit input → IsSession (audited_parts input) f → (o : Option TraceRefusal) → trace_fault input f ≡ o → IsAnswered Audit input
of_trace input f i s None e = inr (i, f, s, e)
of_trace input f i s (Some r) e = inl (answer.Refused (fault.Trace r), (i, refl, record { file = f; is_session = s; first = e }))

of_program : (c : Command) (input : List ℕ) (f : File) → has_handlers c ≡ true → IsInput c input → IsProgram (handlers_of c input) f → IsAnswered c input
of_program Check input f h i p = inl (answer.Text (canonical_text (names_of [] input) f), (i, record { file = f; program = p; text_is = refl }))
of_program Show input f h i p = inl (answer.Text (answer.shown_of input f p.lists), (i, record { file = f; program = p; text_is = refl }))
of_program (Serve callers shards) input f h i p =
    of_tables (Serve callers shards) input f i refl p (λ s. inl (answer.Text (answer.served_text input f), (i, record { file = f; is_session = s; text_is = refl }))) (table_fault (parts_of input) f) refl
of_program (Dump callers shards) input f h i p =
    of_tables (Dump callers shards) input f i refl p (λ s. inl (answer.Text (answer.dumped_text input f), (i, record { file = f; is_session = s; text_is = refl }))) (table_fault (parts_of input) f) refl
of_program (Work requests start) input f h i p =
    of_tables (Work requests start) input f i refl p (λ s. inl (answer.Text (answer.summary_of requests input f), (i, record { file = f; is_session = s; text_is = refl }))) (table_fault (parts_of input) f) refl
of_program Ranges input f h i p = absurd (false≢true h)
of_program (Trace callers shards) input f h i p =
    of_tables (Trace callers shards) input f i refl p (λ s. inr (i, f, s)) (table_fault (parts_of input) f) refl
of_program Audit input f h i p = of_tables Audit input f i refl p (λ s. of_trace input f i s (trace_fault input f) refl) (table_fault (audited_parts input) f) refl
of_program (Clients callers shards) input f h i p =
    of_tables (Clients callers shards) input f i refl p (λ s. inl (answer.Text (clients_text (all_names_of (client_parts input)) got (serial_replies (session_of_arrivals input f got) (length got)) (length (client_counts input))), (i, record { file = f; is_session = s; got = got; drawn = in_order_drawn (client_counts input); all = in_order_length 0 (client_counts input); text_is = refl }))) (table_fault (client_parts input) f) refl
  where
    got : List Arrival
    got = in_order 0 (client_counts input)

-- ---- handlers

module _ (c : Command) (input : List ℕ) (has : has_handlers c ≡ true) (i : IsInput c input) where
  of_accepted : (f : File) → IsSourceOf [] (handlers_of c input) f → IsAccepted f → IsAnalysed f → IsAnswered c input
  of_accepted f form accepted (inl later) = of_program c input f has i (record { form = form; accepted = accepted; lists = later.0; later = later.1 })
  of_accepted f form accepted (inr e) = inl (answer.Refused (fault.Analysis e.0), (i, record { file = f; form = form; accepted = accepted; first = e.1 }, has))

  of_file : (f : File) → IsSourceOf [] (handlers_of c input) f → IsAccepted f ⊎ ((e : CheckRefusal) × IsRefusal f e) → IsAnswered c input
  of_file f form (inl accepted) = of_accepted f form accepted (answered f)
  of_file f form (inr e) = inl (answer.Refused (fault.Check e.0), (i, record { file = f; form = form; first = e.1 }, has))

  of_text : ((f : File) × IsSourceOf [] (handlers_of c input) f) ⊎ ((e : SyntaxRefusal) × HasFault [] (handlers_of c input) e) → IsAnswered c input
  of_text (inl f) = of_file f.0 f.1 (some_answer f.0 (places_rise [] (handlers_of c input) f.0 f.1))
  of_text (inr e) = inl (answer.Refused (fault.Syntax e.0), (i, record { first = e.1; certain = fault_certain _ _ e.0 e.1 }, has))

-- ---- lines of a range session

of_lines : (input : List ℕ) → IsInput Ranges input → (o : Option RangeRefusal) → text_fault input ≡ o → IsAnswered Ranges input
of_lines input i None e = (let t = some_text input i.short e in inl (answer.Text t.0, (i, t.1)))
of_lines input i (Some r) e = inl (answer.Refused (fault.Ranges r), (i, refl, e))

-- ---- inputs

of_input : (c : Command) (input : List ℕ) → IsInput c input → (b : Bool) → has_handlers c ≡ b → IsAnswered c input
of_input c input i true has = of_text c input has i (file_or_fault [] (handlers_of c input))
of_input Ranges input i false has = of_lines input i (text_fault input) refl
of_input Check input i false has = absurd (false≢true (sym has))
of_input Show input i false has = absurd (false≢true (sym has))
of_input (Serve callers shards) input i false has = absurd (false≢true (sym has))
of_input (Dump callers shards) input i false has = absurd (false≢true (sym has))
of_input (Work requests start) input i false has = absurd (false≢true (sym has))
of_input (Trace callers shards) input i false has = absurd (false≢true (sym has))
of_input Audit input i false has = absurd (false≢true (sym has))
of_input (Clients callers shards) input i false has = absurd (false≢true (sym has))

-- parts have no fault, or one of these
abbrev Wanted : Option Fault → Type 0
Wanted None = Unit {0}
Wanted (Some fault.NoRequests) = Unit {0}
Wanted (Some fault.HasRequests) = Unit {0}
Wanted (Some fault.NoTrace) = Unit {0}
Wanted (Some fault.TooManyClients) = Unit {0}
Wanted (Some _) = ⊥

alone_wanted : (b : Bool) → Wanted (alone_fault b)
alone_wanted true = tt
alone_wanted false = tt

divided_wanted : (b : Bool) → Wanted (divided_fault b)
divided_wanted true = tt
divided_wanted false = tt

traced_wanted : (b t : Bool) → Wanted (traced_fault b t)
traced_wanted true true = tt
traced_wanted true false = tt
traced_wanted false true = tt
traced_wanted false false = tt

clients_wanted : (b : Bool) (n : ℕ) → Wanted (clients_fault b n)
clients_wanted true n = by (nat_le 16 n) where
  by : (few : Bool) → Wanted (if few then Some fault.TooManyClients else None)
  by true = tt
  by false = tt
clients_wanted false n = tt

parts_wanted : (c : Command) (input : List ℕ) → Wanted (parts_fault c input)
parts_wanted Check input = alone_wanted (has_mark input)
parts_wanted Show input = alone_wanted (has_mark input)
parts_wanted (Serve callers shards) input = divided_wanted (is_divided input)
parts_wanted (Dump callers shards) input = divided_wanted (is_divided input)
parts_wanted (Work requests start) input = divided_wanted (is_divided input)
parts_wanted Ranges input = tt
parts_wanted (Trace callers shards) input = divided_wanted (is_divided input)
parts_wanted Audit input = traced_wanted (is_divided (before_trace input)) (has_trace input)
parts_wanted (Clients callers shards) input = clients_wanted (is_divided input) (client_marks input)

module _ (c : Command) (input : List ℕ) (short : IsShort c input) (utf8 : IsUtf8 input) where
  of_parts : (o : Option Fault) → parts_fault c input ≡ o → Wanted o → IsAnswered c input
  of_parts None e w = of_input c input (record { short = short; utf8 = utf8; parts = e }) (has_handlers c) refl
  of_parts (Some fault.NoRequests) e w = inl (answer.Refused fault.NoRequests, (short, utf8, e))
  of_parts (Some fault.HasRequests) e w = inl (answer.Refused fault.HasRequests, (short, utf8, e))
  of_parts (Some fault.NoTrace) e w = inl (answer.Refused fault.NoTrace, (short, utf8, e))
  of_parts (Some fault.TooManyClients) e w = inl (answer.Refused fault.TooManyClients, (short, utf8, e))
  of_parts (Some _) e w = absurd w

of_bytes : (c : Command) (input : List ℕ) → IsShort c input → (b : Bool) → is_utf8 input ≡ b → IsAnswered c input
of_bytes c input short true e = of_parts c input short (IsUtf8-from_is_utf8 input e) (parts_fault c input) refl (parts_wanted c input)
of_bytes c input short false e = inl (answer.Refused fault.NotText, (short, λ utf8. false≢true (sym e ∙ is_utf8-from_IsUtf8 input utf8)))

-- an input is too large or short enough
sized : (c : Command) (input : List ℕ) → IsTooLarge c input ⊎ IsShort c input
sized Check input = cases_lt max_input (length input)
sized Show input = cases_lt max_input (length input)
sized (Serve callers shards) input = cases_lt max_input (length input)
sized (Dump callers shards) input = cases_lt max_input (length input)
sized (Work requests start) input = cases_lt max_input (length input)
sized Ranges input = cases_lt max_input (length input)
sized (Trace callers shards) input = cases_lt max_input (length input)
sized (Clients callers shards) input = cases_lt max_input (length input)
sized Audit input = by (cases_lt max_audit_input (length input)) (cases_lt max_input (length (before_trace input))) where
  by : (max_audit_input < length input) ⊎ (length input ≤ max_audit_input) → (max_input < length (before_trace input)) ⊎ (length (before_trace input) ≤ max_input) → IsTooLarge Audit input ⊎ IsShort Audit input
  by (inl l) k = inl (inl l)
  by (inr s) (inl l) = inl (inr l)
  by (inr s) (inr t) = inr (s, t)

of_size : (c : Command) (input : List ℕ) → IsTooLarge c input ⊎ IsShort c input → IsAnswered c input
of_size c input (inl long) = inl (answer.Refused fault.TooLarge, long)
of_size c input (inr short) = of_bytes c input short (is_utf8 input) refl

-- where each such text can be written, each command line has an answer
module _ (of_events : (c : Command) (bytes : List ℕ) → IsOfEvents c (input_of c bytes) → (a : Answer) × CommandAnswers (Some c) bytes a) where
  of_command : (c : Command) (bytes : List ℕ) → IsAnswered c (input_of c bytes) → (a : Answer) × CommandAnswers (Some c) bytes a
  of_command c bytes (inl a) = a
  of_command c bytes (inr e) = of_events c bytes e

  of_words : (o : Option Command) (bytes : List ℕ) → (a : Answer) × CommandAnswers o bytes a
  of_words None bytes = (answer.Usage, tt)
  of_words (Some c) bytes = of_command c bytes (of_size c (input_of c bytes) (sized c (input_of c bytes)))

  pub has_answer : (words : List (List ℕ)) (bytes : List ℕ) → (a : Answer) × IsAnswer words bytes a
  has_answer words bytes = of_words (command_of words) bytes
