-- An input has one answer at most.
use Rattle.std.proofs.Common.{◌≡◌, ℕ, ◌⊎◌, inl, inr, Bool, true, false, List, [], Option, Some, None, refl, sym, ap, ◌∙◌, subst}
use Rattle.std.proofs.lemmas.Bool.{false≢true}
use Rattle.handler_syntax.specs.Language.{names_of, File, canonical_text}
use Rattle.handler_syntax.proofs.Facts.{one_tree}
use Rattle.session_journal.specs.Symbol.{Symbol}
use Rattle.may_use_analysis.specs.Later.{AreLater}
use Rattle.may_use_analysis.proofs.TopLemmas.{same_later}
use Rattle.range_tables.specs.declared.refusal.RangeRefusal.{RangeRefusal}
use Rattle.range_tables.specs.Faults.{text_fault}
use Rattle.range_tables.proofs.OneText.{fine_text, one_text}
use Rattle.trace_lines.specs.declared.refusal.TraceRefusal.{TraceRefusal}
use Rattle.serve_words.specs.declared.command.Command.{Command}
use Rattle.serve_words.specs.declared.command.Command.TheVariants.{Check, Show, Serve, Dump, Work, Ranges, Trace, Audit, Clients}
use Rattle.serve_words.specs.Commands.{command_of}
use Rattle.serve_faults.specs.declared.status.Fault.{Fault}
use Rattle.serve_faults.specs.Commands.{fixes_text, input_of, has_requests, has_handlers, is_judging}
use Rattle.serve_faults.specs.Audited.{HasTraceFault, audited_parts, trace_fault}
use Rattle.serve_faults.specs.Input.{parts_in, parts_of, handlers_of, IsInput}
use Rattle.serve_faults.specs.Session.{IsProgram, IsSession}
use Rattle.serve_faults.specs.Answer.{IsRefused, IsTextOf, Answer, Answers, AreOne, CommandAnswers, IsAnswer, IsText, IsUnfixed}
use Rattle.serve_faults.specs.Answer as answer
use Rattle.serve_faults.proofs.OneTrace.{one_judged}
use Rattle.serve_faults.proofs.OneFault.{HasLineFault, Inner, inner, no_analysis, no_check, no_line_fault, no_syntax, program_of, serving}
pub use Rattle.serve_faults.proofs.OneFault.{refused_once}

-- ---- what has a text isn't refused

-- the handlers of a text
program_in : (c : Command) (input t : List ℕ) → has_handlers c ≡ true → IsTextOf c input t → (f : File) × IsProgram (handlers_of c input) f
program_in Check input t e h = (h.file, h.program)
program_in Show input t e h = (h.file, h.program)
program_in (Serve callers shards) input t e h = (h.file, h.is_session.program)
program_in (Dump callers shards) input t e h = (h.file, h.is_session.program)
program_in (Work requests start) input t e h = (h.file, h.is_session.program)
program_in Ranges input t e h = absurd (false≢true e)
program_in (Trace callers shards) input t e h = (h.file, h.is_session.program)
program_in Audit input t e h = (h.file, h.is_session.program)
program_in (Clients callers shards) input t e h = (h.file, h.is_session.program)

no_line : (c : Command) (input t : List ℕ) (f : Fault) → IsTextOf c input t → has_requests c ≡ true → HasLineFault c input f → ⊥
no_line Check input t f h has k = false≢true has
no_line Show input t f h has k = false≢true has
no_line Ranges input t f h has k = false≢true has
no_line (Serve callers shards) input t f h has k = no_line_fault (Serve callers shards) input f h.file h.is_session k
no_line (Dump callers shards) input t f h has k = no_line_fault (Dump callers shards) input f h.file h.is_session k
no_line (Work requests start) input t f h has k = no_line_fault (Work requests start) input f h.file h.is_session k
no_line (Trace callers shards) input t f h has k = no_line_fault (Trace callers shards) input f h.file h.is_session k
no_line Audit input t f h has k = no_line_fault Audit input f h.file h.is_session k
no_line (Clients callers shards) input t f h has k = no_line_fault (Clients callers shards) input f h.file h.is_session k

no_range : (c : Command) (input t : List ℕ) (e : RangeRefusal) → IsTextOf c input t → has_handlers c ≡ false → text_fault input ≡ Some e → ⊥
no_range Check input t e h has k = false≢true (sym has)
no_range Show input t e h has k = false≢true (sym has)
no_range (Serve callers shards) input t e h has k = false≢true (sym has)
no_range (Dump callers shards) input t e h has k = false≢true (sym has)
no_range (Work requests start) input t e h has k = false≢true (sym has)
no_range Ranges input t e h has k = fine_text input t e h k
no_range (Trace callers shards) input t e h has k = false≢true (sym has)
no_range Audit input t e h has k = false≢true (sym has)
no_range (Clients callers shards) input t e h has k = false≢true (sym has)

-- a trace part without a fault has none
no_fault_of : (input : List ℕ) (file : File) → IsSession (audited_parts input) file → trace_fault input file ≡ None → (e : TraceRefusal) → HasTraceFault input e → ⊥
no_fault_of input file s fine e k =
    let same : file ≡ k.file = one_tree [] (audited_parts input).handlers file k.file s.program.form k.is_session.program.form in
    let is : None ≡ Some e = sym fine ∙ ap (trace_fault input) same ∙ k.first in
    absurd (cc)

-- a trace that is judged has no fault
no_trace : (c : Command) (input t : List ℕ) (e : TraceRefusal) → IsTextOf c input t → is_judging c ≡ true → HasTraceFault input e → ⊥
no_trace Check input t e h has k = false≢true has
no_trace Show input t e h has k = false≢true has
no_trace (Serve callers shards) input t e h has k = false≢true has
no_trace (Dump callers shards) input t e h has k = false≢true has
no_trace (Work requests start) input t e h has k = false≢true has
no_trace Ranges input t e h has k = false≢true has
no_trace (Trace callers shards) input t e h has k = false≢true has
no_trace Audit input t e h has k = no_fault_of input h.file h.is_session h.is_trace.fine e k
no_trace (Clients callers shards) input t e h has k = false≢true has

pub text_or_refused : (c : Command) (input t : List ℕ) (f : Fault) → IsInput c input → IsTextOf c input t → IsRefused c input f → ⊥
text_or_refused c input t f i h r = by (inner c input f i r) where
  by : Inner c input f → ⊥
  by (inl a) = no_syntax (handlers_of c input) a.0 (program_in c input t a.3 h).0 a.2 (program_in c input t a.3 h).1.form
  by (inr (inl a)) = no_check (handlers_of c input) a.0 (program_in c input t a.3 h).0 a.2 (program_in c input t a.3 h).1
  by (inr (inr (inl a))) = no_analysis (handlers_of c input) a.0 (program_in c input t a.3 h).0 a.2 (program_in c input t a.3 h).1
  by (inr (inr (inr (inl a)))) = no_line c input t f h a.0 a.1
  by (inr (inr (inr (inr (inl a))))) = no_trace c input t a.0 h a.2 a.3
  by (inr (inr (inr (inr (inr a))))) = no_range c input t a.0 h a.2 a.3

-- ---- one answer at most
same_text : (c : Command) (input s t : List ℕ) → fixes_text c ≡ true → IsTextOf c input s → IsTextOf c input t → s ≡ t
same_text Check input s t e h k = h.text_is ∙ ap (canonical_text (names_of [] input)) (one_tree [] input h.file k.file h.program.form k.program.form) ∙ sym k.text_is
same_text Show input s t e h k =
    let tree = one_tree [] input h.file k.file h.program.form k.program.form in
    let lists = same_later k.file h.program.lists k.program.lists (subst (λ (f : File). AreLater f h.program.lists) tree h.program.later) k.program.later in
    h.text_is ∙ ap (λ (f : File). answer.shown_of input f h.program.lists) tree ∙ ap (λ (ls : List (List (List Symbol))). answer.shown_of input k.file ls) lists ∙ sym k.text_is
same_text (Serve callers shards) input s t e h k =
    h.text_is ∙ ap (λ (f : File). answer.served_text input f) (one_tree [] (parts_of input).handlers h.file k.file h.is_session.program.form k.is_session.program.form) ∙ sym k.text_is
same_text (Dump callers shards) input s t e h k =
    h.text_is ∙ ap (λ (f : File). answer.dumped_text input f) (one_tree [] (parts_of input).handlers h.file k.file h.is_session.program.form k.is_session.program.form) ∙ sym k.text_is
same_text (Work requests start) input s t e h k =
    h.text_is ∙ ap (λ (f : File). answer.summary_of requests input f) (one_tree [] (parts_of input).handlers h.file k.file h.is_session.program.form k.is_session.program.form) ∙ sym k.text_is
same_text Ranges input s t e h k = one_text input s t h k
same_text (Trace callers shards) input s t e h k = absurd (false≢true e)
same_text Audit input s t e h k = one_judged input s t h k
same_text (Clients callers shards) input s t e h k = absurd (false≢true e)

-- the answers to a command are one, or two texts that its input doesn't fix
abbrev pub AreSame : Command → Answer → Answer → Type 0
AreSame c a b = (a ≡ b) ⊎ ((fixes_text c ≡ false) × IsText a × IsText b)

same_texts : (c : Command) (input s t : List ℕ) (b : Bool) → fixes_text c ≡ b → IsTextOf c input s → IsTextOf c input t → AreSame c (answer.Text s) (answer.Text t)
same_texts c input s t true e h k = inl (ap answer.Text (same_text c input s t e h k))
same_texts c input s t false e h k = inr (e, tt, tt)

pub one_of_command : (c : Command) (input : List ℕ) (a b : Answer) → Answers c input a → Answers c input b → AreSame c a b
one_of_command c input answer.Usage b h k = absurd h
one_of_command c input (answer.Refused f) answer.Usage h k = absurd k
one_of_command c input (answer.Refused f) (answer.Refused g) h k = inl (ap answer.Refused (refused_once c input f g h k))
one_of_command c input (answer.Refused f) (answer.Text t) h k = absurd (text_or_refused c input t f k.0 k.1 h)
one_of_command c input (answer.Text s) answer.Usage h k = absurd k
one_of_command c input (answer.Text s) (answer.Refused g) h k = absurd (text_or_refused c input s g h.0 h.1 k)
one_of_command c input (answer.Text s) (answer.Text t) h k = same_texts c input s t (fixes_text c) refl h.1 k.1

abbrev AreSameOf : Option Command → Answer → Answer → Type 0
AreSameOf o a b = (a ≡ b) ⊎ (IsUnfixed o × IsText a × IsText b)

same_answers : (o : Option Command) (bytes : List ℕ) (a b : Answer) → CommandAnswers o bytes a → CommandAnswers o bytes b → AreSameOf o a b
same_answers None bytes answer.Usage answer.Usage h k = inl refl
same_answers None bytes answer.Usage (answer.Refused g) h k = absurd k
same_answers None bytes answer.Usage (answer.Text t) h k = absurd k
same_answers None bytes (answer.Refused f) b h k = absurd h
same_answers None bytes (answer.Text s) b h k = absurd h
same_answers (Some c) bytes a b h k = one_of_command c (input_of c bytes) a b h k

pub same_answer : (words : List (List ℕ)) (bytes : List ℕ) (a b : Answer) → IsAnswer words bytes a → IsAnswer words bytes b → AreOne words a b
same_answer words bytes a b h k = same_answers (command_of words) bytes a b h k
