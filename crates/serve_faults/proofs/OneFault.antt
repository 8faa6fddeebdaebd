-- An input has one first fault at most.
use Rattle.std.proofs.Common.{◌≡◌, ℕ, ◌⊎◌, inl, inr, true, false, List, [], Option, Some, None, refl, sym, ap, ◌∙◌, subst, arith}
use Rattle.std.specs.Prelude.{IsUtf8}
use Rattle.std.proofs.lemmas.Bool.{false≢true}
use Rattle.handler_syntax.specs.Language.{File, SyntaxRefusal, IsSourceOf}
use Rattle.handler_syntax.proofs.Facts.{one_tree, one_fault, no_fault}
use Rattle.handler_check.specs.declared.refusal.CheckRefusal.{CheckRefusal}
use Rattle.handler_check.specs.Checking.{IsAccepted, IsRefusal}
use Rattle.handler_check.proofs.ExcessLemmas.{one_answer, not_both}
use Rattle.may_use_analysis.specs.declared.refusal.AnalysisRefusal.{AnalysisRefusal}
use Rattle.may_use_analysis.specs.Later.{IsTooMany}
use Rattle.may_use_analysis.proofs.TopLemmas.{one_refusal, apart}
use Rattle.range_tables.specs.declared.refusal.RangeRefusal.{RangeRefusal}
use Rattle.range_tables.specs.Faults.{text_fault}
use Rattle.request_files.specs.declared.refusal.RequestRefusal.{RequestRefusal}
use Rattle.table_lines.specs.declared.refusal.TableRefusal.{TableRefusal}
use Rattle.trace_lines.specs.declared.refusal.TraceRefusal.{TraceRefusal}
use Rattle.serve_words.specs.declared.command.Command.{Command}
use Rattle.serve_words.specs.declared.command.Command.TheVariants.{Check, Show, Serve, Dump, Work, Ranges, Trace, Audit, Clients}
use Rattle.serve_faults.specs.declared.status.Fault.{Fault}
use Rattle.serve_faults.specs.declared.status.Fault.TheVariants as fault
use Rattle.serve_faults.specs.Commands.{has_requests, has_handlers, is_judging}
use Rattle.serve_faults.specs.Audited.{HasTraceFault, audited_parts, trace_fault}
use Rattle.serve_faults.specs.Input.{Parts, parts_in, parts_fault, handlers_of, IsInput, IsShort, IsTooLarge}
use Rattle.serve_faults.specs.Session.{IsProgram, IsSession, request_fault, table_fault}
use Rattle.serve_faults.specs.Answer.{HasSyntaxFault, HasCheckFault, HasAnalysisFault, HasRequestFault, HasTableFault, IsRefused}

-- ---- handlers
module _ (text : List ℕ) where
  same_check : (d e : CheckRefusal) → HasCheckFault text d → HasCheckFault text e → d ≡ e
  same_check d e h k = one_answer k.file d e (subst (λ (f : File). IsRefusal f d) (one_tree [] text h.file k.file h.form k.form) h.first) k.first

  pub no_syntax : (d : SyntaxRefusal) (f : File) → HasSyntaxFault text d → IsSourceOf [] text f → ⊥
  no_syntax d f h k = no_fault [] text f d k h.first

  pub no_check : (e : CheckRefusal) (f : File) → HasCheckFault text e → IsProgram text f → ⊥
  no_check e f h k = not_both f e (subst (λ (g : File). IsRefusal g e) (one_tree [] text h.file f h.form k.form) h.first) k.accepted

  no_check_form : (d : CheckRefusal) (h : HasCheckFault text d) (f : File) → IsSourceOf [] text f → IsAccepted f → ⊥
  no_check_form d h f k a = not_both f d (subst (λ (g : File). IsRefusal g d) (one_tree [] text h.file f h.form k) h.first) a

  same_analysis : (d e : AnalysisRefusal) → HasAnalysisFault text d → HasAnalysisFault text e → d ≡ e
  same_analysis d e h k = one_refusal k.file d e (subst (λ (f : File). IsTooMany f d) (one_tree [] text h.file k.file h.form k.form) h.first) k.first

  pub no_analysis : (e : AnalysisRefusal) (f : File) → HasAnalysisFault text e → IsProgram text f → ⊥
  no_analysis e f h k = apart f k.lists e k.later (subst (λ (g : File). IsTooMany g e) (one_tree [] text h.file f h.form k.form) h.first)

-- ---- inputs
-- what is short enough isn't too large
pub short_or_large : (c : Command) (input : List ℕ) → IsShort c input → IsTooLarge c input → ⊥
short_or_large Check input s l = omega (arith, s, l)
short_or_large Show input s l = omega (arith, s, l)
short_or_large (Serve callers shards) input s l = omega (arith, s, l)
short_or_large (Dump callers shards) input s l = omega (arith, s, l)
short_or_large (Work requests start) input s l = omega (arith, s, l)
short_or_large Ranges input s l = omega (arith, s, l)
short_or_large (Trace callers shards) input s l = omega (arith, s, l)
short_or_large Audit input s (inl l) = omega (arith, s.0, l)
short_or_large Audit input s (inr l) = omega (arith, s.1, l)
short_or_large (Clients callers shards) input s l = omega (arith, s, l)

module _ (c : Command) (input : List ℕ) where
  abbrev text : List ℕ
  text = handlers_of c input

  -- a fault of the table part or of the requests behind it
  abbrev IsLineFault : File → Fault → Type 0
  IsLineFault file g = ((e : TableRefusal) × (g ≡ fault.Tables e) × (table_fault (parts_in c input) file ≡ Some e))
      ⊎ ((e : RequestRefusal) × (g ≡ fault.Request e) × (table_fault (parts_in c input) file ≡ None) × (request_fault (parts_in c input) file ≡ Some e))

  pub record HasLineFault (g : Fault) : Type 0 where
    pub file : File
    pub program : IsProgram (parts_in c input).handlers file
    pub is : IsLineFault file g

  of_table : (e : TableRefusal) → HasTableFault (parts_in c input) e → HasLineFault (fault.Tables e)
  of_table e h = record { file = h.file; program = h.program; is = inl (e, refl, h.first) }

  of_request : (e : RequestRefusal) → HasRequestFault (parts_in c input) e → HasLineFault (fault.Request e)
  of_request e h = record { file = h.file; program = h.program; is = inr (e, refl, h.tables, h.first) }

  -- a fault of what an input holds
  abbrev pub Inner : Fault → Type 0
  Inner g = ((e : SyntaxRefusal) × (g ≡ fault.Syntax e) × HasSyntaxFault text e × (has_handlers c ≡ true))
      ⊎ (((e : CheckRefusal) × (g ≡ fault.Check e) × HasCheckFault text e × (has_handlers c ≡ true))
      ⊎ (((e : AnalysisRefusal) × (g ≡ fault.Analysis e) × HasAnalysisFault text e × (has_handlers c ≡ true))
      ⊎ (((has_requests c ≡ true) × HasLineFault g)
      ⊎ (((e : TraceRefusal) × (g ≡ fault.Trace e) × (is_judging c ≡ true) × HasTraceFault input e)
      ⊎ ((e : RangeRefusal) × (g ≡ fault.Ranges e) × (has_handlers c ≡ false) × (text_fault input ≡ Some e))))))

  no_parts : (g : Fault) → parts_fault c input ≡ None → parts_fault c input ≡ Some g → ⊥
  no_parts g e f = let is : ◌≡◌ {A = Option Fault} None (Some g) = sym e ∙ f in absurd (cc)

  pub inner : (g : Fault) → IsInput c input → IsRefused c input g → Inner g
  inner fault.TooLarge i r = absurd (short_or_large c input i.short r)
  inner fault.NotText i r = absurd (r.1 i.utf8)
  inner fault.NoRequests i r = absurd (no_parts fault.NoRequests i.parts r.2)
  inner fault.HasRequests i r = absurd (no_parts fault.HasRequests i.parts r.2)
  inner fault.NoTrace i r = absurd (no_parts fault.NoTrace i.parts r.2)
  inner fault.TooManyClients i r = absurd (no_parts fault.TooManyClients i.parts r.2)
  inner (fault.Syntax e) i r = inl (e, refl, r.1, r.2)
  inner (fault.Check e) i r = inr (inl (e, refl, r.1, r.2))
  inner (fault.Analysis e) i r = inr (inr (inl (e, refl, r.1, r.2)))
  inner (fault.Tables e) i r = inr (inr (inr (inl (r.1, of_table e r.2))))
  inner (fault.Request e) i r = inr (inr (inr (inl (r.1, of_request e r.2))))
  inner (fault.Trace e) i r = inr (inr (inr (inr (inl (e, refl, r.1, r.2)))))
  inner (fault.Ranges e) i r = inr (inr (inr (inr (inr (e, refl, r.1, r.2)))))

  -- the handlers of such a fault
  pub program_of : (f : File) → has_requests c ≡ true → IsProgram (parts_in c input).handlers f → IsProgram text f
  program_of f has h = at c has h where
    at : (k : Command) → has_requests k ≡ true → IsProgram (parts_in k input).handlers f → IsProgram (handlers_of k input) f
    at Check e p = absurd (false≢true e)
    at Show e p = absurd (false≢true e)
    at (Serve callers shards) e p = p
    at (Dump callers shards) e p = p
    at (Work requests start) e p = p
    at Ranges e p = absurd (false≢true e)
    at (Trace callers shards) e p = p
    at Audit e p = p
    at (Clients callers shards) e p = p

  -- a command with requests has handlers
  pub serving : has_requests c ≡ true → has_handlers c ≡ true
  serving = at c where
    at : (k : Command) → has_requests k ≡ true → has_handlers k ≡ true
    at Check e = refl
    at Show e = refl
    at (Serve callers shards) e = refl
    at (Dump callers shards) e = refl
    at (Work requests start) e = refl
    at Ranges e = e
    at (Trace callers shards) e = refl
    at Audit e = refl
    at (Clients callers shards) e = refl

  same_range : (d e : RangeRefusal) → text_fault input ≡ Some d → text_fault input ≡ Some e → d ≡ e
  same_range d e h k = let is : Some d ≡ Some e = sym h ∙ k in cc

  -- a session has no fault
  pub no_line_fault : (f : Fault) (file : File) → IsSession (parts_in c input) file → HasLineFault f → ⊥
  no_line_fault f file h k = by k.is where
    same : file ≡ k.file
    same = one_tree [] (parts_in c input).handlers file k.file h.program.form k.program.form

    by : IsLineFault k.file f → ⊥
    by (inl a) = let is : None ≡ Some a.0 = sym h.tables ∙ ap (table_fault (parts_in c input)) same ∙ a.2 in absurd (cc)
    by (inr a) = let is : None ≡ Some a.0 = sym h.requests ∙ ap (request_fault (parts_in c input)) same ∙ a.3 in absurd (cc)

  one_line : (f g : Fault) → HasLineFault f → HasLineFault g → f ≡ g
  one_line f g h k = by h.is k.is where
    same : h.file ≡ k.file
    same = one_tree [] (parts_in c input).handlers h.file k.file h.program.form k.program.form

    tables : table_fault (parts_in c input) h.file ≡ table_fault (parts_in c input) k.file
    tables = ap (table_fault (parts_in c input)) same

    by : IsLineFault h.file f → IsLineFault k.file g → f ≡ g
    by (inl a) (inl b) =
        let is : Some a.0 ≡ Some b.0 = sym a.2 ∙ tables ∙ b.2 in
        let one : a.0 ≡ b.0 = cc in
        a.1 ∙ ap fault.Tables one ∙ sym b.1
    by (inl a) (inr b) = let is : Some a.0 ≡ None = sym a.2 ∙ tables ∙ b.2 in absurd (cc)
    by (inr a) (inl b) = let is : None ≡ Some b.0 = sym a.2 ∙ tables ∙ b.2 in absurd (cc)
    by (inr a) (inr b) =
        let is : Some a.0 ≡ Some b.0 = sym a.3 ∙ ap (request_fault (parts_in c input)) same ∙ b.3 in
        let one : a.0 ≡ b.0 = cc in
        a.1 ∙ ap fault.Request one ∙ sym b.1

  -- a command that judges a trace has handlers, which stand before the trace part
  judging : is_judging c ≡ true → has_handlers c ≡ true
  judging = at c where
    at : (k : Command) → is_judging k ≡ true → has_handlers k ≡ true
    at Check e = refl
    at Show e = refl
    at (Serve callers shards) e = refl
    at (Dump callers shards) e = refl
    at (Work requests start) e = refl
    at Ranges e = e
    at (Trace callers shards) e = refl
    at Audit e = refl
    at (Clients callers shards) e = refl

  judged : is_judging c ≡ true → ◌≡◌ {A = Parts} (parts_in c input) (audited_parts input)
  judged = at c where
    at : (k : Command) → is_judging k ≡ true → ◌≡◌ {A = Parts} (parts_in k input) (audited_parts input)
    at Check e = absurd (false≢true e)
    at Show e = absurd (false≢true e)
    at (Serve callers shards) e = absurd (false≢true e)
    at (Dump callers shards) e = absurd (false≢true e)
    at (Work requests start) e = absurd (false≢true e)
    at Ranges e = absurd (false≢true e)
    at (Trace callers shards) e = absurd (false≢true e)
    at Audit e = refl
    at (Clients callers shards) e = absurd (false≢true e)

  traced : {e : TraceRefusal} → is_judging c ≡ true → (h : HasTraceFault input e) → IsProgram text h.file
  traced j h = at c j where
    at : (k : Command) → is_judging k ≡ true → IsProgram (handlers_of k input) h.file
    at Check e = absurd (false≢true e)
    at Show e = absurd (false≢true e)
    at (Serve callers shards) e = absurd (false≢true e)
    at (Dump callers shards) e = absurd (false≢true e)
    at (Work requests start) e = absurd (false≢true e)
    at Ranges e = absurd (false≢true e)
    at (Trace callers shards) e = absurd (false≢true e)
    at Audit e = h.is_session.program
    at (Clients callers shards) e = absurd (false≢true e)

  -- what stands before a trace part with a fault has none
  no_line_before : {e : TraceRefusal} (f : Fault) → is_judging c ≡ true → HasLineFault f → HasTraceFault input e → ⊥
  no_line_before f j h k = no_line_fault f k.file (subst (λ (p : Parts). IsSession p k.file) (sym (judged j)) k.is_session) h

  same_trace : (d e : TraceRefusal) → HasTraceFault input d → HasTraceFault input e → d ≡ e
  same_trace d e h k =
      let same : h.file ≡ k.file = one_tree [] (audited_parts input).handlers h.file k.file h.is_session.program.form k.is_session.program.form in
      let is : Some d ≡ Some e = sym h.first ∙ ap (trace_fault input) same ∙ k.first in
      cc

  one_inner : (f g : Fault) → Inner f → Inner g → f ≡ g
  one_inner f g (inl a) (inl b) = a.1 ∙ ap fault.Syntax (one_fault [] text a.0 b.0 a.2.first b.2.first) ∙ sym b.1
  one_inner f g (inl a) (inr (inl b)) = absurd (no_syntax text a.0 b.2.file a.2 b.2.form)
  one_inner f g (inl a) (inr (inr (inl b))) = absurd (no_syntax text a.0 b.2.file a.2 b.2.form)
  one_inner f g (inl a) (inr (inr (inr (inl b)))) = absurd (no_syntax text a.0 b.1.file a.2 (program_of b.1.file b.0 b.1.program).form)
  one_inner f g (inr (inl a)) (inl b) = absurd (no_syntax text b.0 a.2.file b.2 a.2.form)
  one_inner f g (inr (inl a)) (inr (inl b)) = a.1 ∙ ap fault.Check (same_check text a.0 b.0 a.2 b.2) ∙ sym b.1
  one_inner f g (inr (inl a)) (inr (inr (inl b))) = absurd (no_check_form text a.0 a.2 b.2.file b.2.form b.2.accepted)
  one_inner f g (inr (inl a)) (inr (inr (inr (inl b)))) = absurd (no_check text a.0 b.1.file a.2 (program_of b.1.file b.0 b.1.program))
  one_inner f g (inr (inr (inl a))) (inl b) = absurd (no_syntax text b.0 a.2.file b.2 a.2.form)
  one_inner f g (inr (inr (inl a))) (inr (inl b)) = absurd (no_check_form text b.0 b.2 a.2.file a.2.form a.2.accepted)
  one_inner f g (inr (inr (inl a))) (inr (inr (inl b))) = a.1 ∙ ap fault.Analysis (same_analysis text a.0 b.0 a.2 b.2) ∙ sym b.1
  one_inner f g (inr (inr (inl a))) (inr (inr (inr (inl b)))) = absurd (no_analysis text a.0 b.1.file a.2 (program_of b.1.file b.0 b.1.program))
  one_inner f g (inr (inr (inr (inl a)))) (inl b) = absurd (no_syntax text b.0 a.1.file b.2 (program_of a.1.file a.0 a.1.program).form)
  one_inner f g (inr (inr (inr (inl a)))) (inr (inl b)) = absurd (no_check text b.0 a.1.file b.2 (program_of a.1.file a.0 a.1.program))
  one_inner f g (inr (inr (inr (inl a)))) (inr (inr (inl b))) = absurd (no_analysis text b.0 a.1.file b.2 (program_of a.1.file a.0 a.1.program))
  one_inner f g (inr (inr (inr (inl a)))) (inr (inr (inr (inl b)))) = one_line f g a.1 b.1
  one_inner f g (inl a) (inr (inr (inr (inr (inl b))))) = absurd (no_syntax text a.0 b.3.file a.2 (traced b.2 b.3).form)
  one_inner f g (inr (inl a)) (inr (inr (inr (inr (inl b))))) = absurd (no_check text a.0 b.3.file a.2 (traced b.2 b.3))
  one_inner f g (inr (inr (inl a))) (inr (inr (inr (inr (inl b))))) = absurd (no_analysis text a.0 b.3.file a.2 (traced b.2 b.3))
  one_inner f g (inr (inr (inr (inl a)))) (inr (inr (inr (inr (inl b))))) = absurd (no_line_before f b.2 a.1 b.3)
  one_inner f g (inr (inr (inr (inr (inl a))))) (inl b) = absurd (no_syntax text b.0 a.3.file b.2 (traced a.2 a.3).form)
  one_inner f g (inr (inr (inr (inr (inl a))))) (inr (inl b)) = absurd (no_check text b.0 a.3.file b.2 (traced a.2 a.3))
  one_inner f g (inr (inr (inr (inr (inl a))))) (inr (inr (inl b))) = absurd (no_analysis text b.0 a.3.file b.2 (traced a.2 a.3))
  one_inner f g (inr (inr (inr (inr (inl a))))) (inr (inr (inr (inl b)))) = absurd (no_line_before g a.2 b.1 a.3)
  one_inner f g (inr (inr (inr (inr (inl a))))) (inr (inr (inr (inr (inl b))))) = a.1 ∙ ap fault.Trace (same_trace a.0 b.0 a.3 b.3) ∙ sym b.1
  one_inner f g (inl a) (inr (inr (inr (inr (inr b))))) = absurd (false≢true (sym b.2 ∙ a.3))
  one_inner f g (inr (inl a)) (inr (inr (inr (inr (inr b))))) = absurd (false≢true (sym b.2 ∙ a.3))
  one_inner f g (inr (inr (inl a))) (inr (inr (inr (inr (inr b))))) = absurd (false≢true (sym b.2 ∙ a.3))
  one_inner f g (inr (inr (inr (inl a)))) (inr (inr (inr (inr (inr b))))) = absurd (false≢true (sym b.2 ∙ serving a.0))
  one_inner f g (inr (inr (inr (inr (inl a))))) (inr (inr (inr (inr (inr b))))) = absurd (false≢true (sym b.2 ∙ judging a.2))
  one_inner f g (inr (inr (inr (inr (inr a))))) (inl b) = absurd (false≢true (sym a.2 ∙ b.3))
  one_inner f g (inr (inr (inr (inr (inr a))))) (inr (inl b)) = absurd (false≢true (sym a.2 ∙ b.3))
  one_inner f g (inr (inr (inr (inr (inr a))))) (inr (inr (inl b))) = absurd (false≢true (sym a.2 ∙ b.3))
  one_inner f g (inr (inr (inr (inr (inr a))))) (inr (inr (inr (inl b)))) = absurd (false≢true (sym a.2 ∙ serving b.0))
  one_inner f g (inr (inr (inr (inr (inr a))))) (inr (inr (inr (inr (inl b))))) = absurd (false≢true (sym a.2 ∙ judging b.2))
  one_inner f g (inr (inr (inr (inr (inr a))))) (inr (inr (inr (inr (inr b))))) = a.1 ∙ ap fault.Ranges (same_range a.0 b.0 a.3 b.3) ∙ sym b.1

  -- ---- no two faults are the first one
  large : (g : Fault) → IsRefused c input g → IsTooLarge c input → g ≡ fault.TooLarge
  large fault.TooLarge r h = refl
  large fault.NotText r h = absurd (short_or_large c input r.0 h)
  large fault.NoRequests r h = absurd (short_or_large c input r.0 h)
  large fault.HasRequests r h = absurd (short_or_large c input r.0 h)
  large fault.NoTrace r h = absurd (short_or_large c input r.0 h)
  large fault.TooManyClients r h = absurd (short_or_large c input r.0 h)
  large (fault.Syntax e) r h = absurd (short_or_large c input r.0.short h)
  large (fault.Check e) r h = absurd (short_or_large c input r.0.short h)
  large (fault.Analysis e) r h = absurd (short_or_large c input r.0.short h)
  large (fault.Tables e) r h = absurd (short_or_large c input r.0.short h)
  large (fault.Request e) r h = absurd (short_or_large c input r.0.short h)
  large (fault.Trace e) r h = absurd (short_or_large c input r.0.short h)
  large (fault.Ranges e) r h = absurd (short_or_large c input r.0.short h)

  no_text : (g : Fault) → IsRefused c input g → IsShort c input → (IsUtf8 input → ⊥) → g ≡ fault.NotText
  no_text fault.TooLarge r h k = absurd (short_or_large c input h r)
  no_text fault.NotText r h k = refl
  no_text fault.NoRequests r h k = absurd (k r.1)
  no_text fault.HasRequests r h k = absurd (k r.1)
  no_text fault.NoTrace r h k = absurd (k r.1)
  no_text fault.TooManyClients r h k = absurd (k r.1)
  no_text (fault.Syntax e) r h k = absurd (k r.0.utf8)
  no_text (fault.Check e) r h k = absurd (k r.0.utf8)
  no_text (fault.Analysis e) r h k = absurd (k r.0.utf8)
  no_text (fault.Tables e) r h k = absurd (k r.0.utf8)
  no_text (fault.Request e) r h k = absurd (k r.0.utf8)
  no_text (fault.Trace e) r h k = absurd (k r.0.utf8)
  no_text (fault.Ranges e) r h k = absurd (k r.0.utf8)

  other_parts : (p g : Fault) → IsRefused c input g → IsShort c input → IsUtf8 input → parts_fault c input ≡ Some p → g ≡ p
  other_parts p fault.TooLarge r h u e = absurd (short_or_large c input h r)
  other_parts p fault.NotText r h u e = absurd (r.1 u)
  other_parts p fault.NoRequests r h u e = let is : Some fault.NoRequests ≡ Some p = sym r.2 ∙ e in cc
  other_parts p fault.HasRequests r h u e = let is : Some fault.HasRequests ≡ Some p = sym r.2 ∙ e in cc
  other_parts p fault.NoTrace r h u e = let is : Some fault.NoTrace ≡ Some p = sym r.2 ∙ e in cc
  other_parts p fault.TooManyClients r h u e = let is : Some fault.TooManyClients ≡ Some p = sym r.2 ∙ e in cc
  other_parts p (fault.Syntax d) r h u e = absurd (no_parts p r.0.parts e)
  other_parts p (fault.Check d) r h u e = absurd (no_parts p r.0.parts e)
  other_parts p (fault.Analysis d) r h u e = absurd (no_parts p r.0.parts e)
  other_parts p (fault.Tables d) r h u e = absurd (no_parts p r.0.parts e)
  other_parts p (fault.Request d) r h u e = absurd (no_parts p r.0.parts e)
  other_parts p (fault.Trace d) r h u e = absurd (no_parts p r.0.parts e)
  other_parts p (fault.Ranges d) r h u e = absurd (no_parts p r.0.parts e)

  pub refused_once : (f g : Fault) → IsRefused c input f → IsRefused c input g → f ≡ g
  refused_once fault.TooLarge g r s = sym (large g s r)
  refused_once fault.NotText g r s = sym (no_text g s r.0 r.1)
  refused_once fault.NoRequests g r s = sym (other_parts fault.NoRequests g s r.0 r.1 r.2)
  refused_once fault.HasRequests g r s = sym (other_parts fault.HasRequests g s r.0 r.1 r.2)
  refused_once fault.NoTrace g r s = sym (other_parts fault.NoTrace g s r.0 r.1 r.2)
  refused_once fault.TooManyClients g r s = sym (other_parts fault.TooManyClients g s r.0 r.1 r.2)
  refused_once (fault.Syntax e) g r s = one_inner (fault.Syntax e) g (inner (fault.Syntax e) r.0 r) (inner g r.0 s)
  refused_once (fault.Check e) g r s = one_inner (fault.Check e) g (inner (fault.Check e) r.0 r) (inner g r.0 s)
  refused_once (fault.Analysis e) g r s = one_inner (fault.Analysis e) g (inner (fault.Analysis e) r.0 r) (inner g r.0 s)
  refused_once (fault.Tables e) g r s = one_inner (fault.Tables e) g (inner (fault.Tables e) r.0 r) (inner g r.0 s)
  refused_once (fault.Request e) g r s = one_inner (fault.Request e) g (inner (fault.Request e) r.0 r) (inner g r.0 s)
  refused_once (fault.Trace e) g r s = one_inner (fault.Trace e) g (inner (fault.Trace e) r.0 r) (inner g r.0 s)
  refused_once (fault.Ranges e) g r s = one_inner (fault.Ranges e) g (inner (fault.Ranges e) r.0 r) (inner g r.0 s)
