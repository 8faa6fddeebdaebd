-- What the try calls of two callers ask, and what they leave: of a ticket that may get a key and one
-- that puts it.
use Rattle.std.proofs.Common.{◌≡◌, ℕ, List, [], ◌∷◌, ◌++◌, inl, inr, refl, ◌∙◌, ap, subst, arith}
use Rattle.session_values.specs.declared.op.Op.{Op}
use Rattle.session_values.specs.declared.reply.Reply.{Reply}
use Rattle.session_values.specs.declared.value.Value.{Value}
use Rattle.session_values.specs.Dialogue.{Entry}
use Rattle.symbolic_ops.specs.declared.symbol.Symbol.{Symbol}
use Rattle.session_journal.specs.Lists.{ListView}
use Rattle.session_journal.specs.Script.{Meaning}
use Rattle.session_hall.specs.declared.answers.Admitting.{Admitting}
use Rattle.session_hall.specs.declared.answers.Admitting.TheVariants as admitting
use Rattle.session_hall.specs.declared.answers.Applying.{Applying}
use Rattle.session_hall.specs.declared.answers.Applying.TheVariants as applying
use Rattle.session_hall.specs.declared.answers.Began.{Began}
use Rattle.session_hall.specs.declared.answers.Began.TheVariants as began
use Rattle.session_hall.specs.declared.answers.Declared.{Declared}
use Rattle.session_hall.specs.declared.answers.Declared.TheVariants as declared
use Rattle.session_hall.specs.declared.answers.Ending.{Ending}
use Rattle.session_hall.specs.declared.answers.Ending.TheVariants as ending
use Rattle.session_hall.specs.declared.answers.Finishing.{Finishing}
use Rattle.session_hall.specs.declared.answers.Finishing.TheVariants as finishing
use Rattle.session_hall.specs.declared.caller.Caller.{Caller}
use Rattle.session_hall.specs.declared.hall.Hall.{Hall}
use Rattle.session_hall.specs.declared.stage.Stage.{Stage}
use Rattle.session_hall.specs.declared.stage.Stage.TheVariants.{Idle, Serving as Serves, InFlight, Applied, Out}
use Rattle.session_journal.specs.Journal.{entries}
use Rattle.session_hall.specs.Callers.{IsCallerOf, book_in, foresight_of}
use Rattle.session_hall.specs.Calls.{AdmittedAs, AppliedAs, BeganAs, BeganTicket, ByNote, DeclaredAs, EndedAs, FinishedAs, FinishedFrom, MayAnswer, MayCall, MayDeclare, MayFinish}
use Rattle.session_hall.specs.Names.{script_of}
use Rattle.session_hall.proofs.Tickets.{of_serving}
use Rattle.tests_desks.specs.BookRows.{meaning_of, nil_reply, put_of}
use Rattle.tests_desks.specs.HallRows.{Stands, done}
use Rattle.tests_desks.specs.TwoPuts.{get_or_puts, may_get, may_put, may_put_both}
use Rattle.tests_desks.proofs.BookRows.{calls_put, no_calls, put_stands}
use Rattle.tests_desks.proofs.HallCalls.{may_call, may_end, may_enter, may_narrow, of_flight}

-- ---- what the calls ask
module _ (h : Hall ListView) (script : script_of h ≡ get_or_puts) (c : Caller ListView) where
  pub calls_first : Stands h c 1 (Serves 1) may_put_both [] → ByNote (meaning_of (script_of h)) c (MayCall (foresight_of c) (put_of 2 7))
  calls_first s = may_call get_or_puts h script c 1 (put_of 2 7) _ _ s (refl, inl (put_stands 2 7 (omega arith) (omega arith)))

  pub enters_first : (v : Value) (next : List Symbol) → next ≡ may_put → Stands h c 1 (Applied 1 (put_of 2 7) v) may_put_both [] → MayFinish (meaning_of (script_of h)) c next
  enters_first v next e s = may_enter get_or_puts h script c 1 (put_of 2 7) v _ _ next _ s e (
    (inr (inl (record { kind = refl; table = refl; key = refl; value = refl })), tt),
    record { few = omega arith; known = ((tt, tt), tt); covers = record { each = calls_put } },
    (inr (inl (record { kind = refl; table = refl; key = refl; value = refl })), tt),
  )

  pub calls_second : (v : Value) → Stands h c 1 (Serves 1) may_put (done (put_of 2 7) v ∷ []) → ByNote (meaning_of (script_of h)) c (MayCall (foresight_of c) (put_of 1 7))
  calls_second v s = may_call get_or_puts h script c 1 (put_of 1 7) _ _ s (refl, inl (put_stands 1 7 (omega arith) (omega arith)))

  pub enters_second : (u v : Value) (next : List Symbol) → next ≡ [] → Stands h c 1 (Applied 1 (put_of 1 7) v) may_put (done (put_of 2 7) u ∷ []) → MayFinish (meaning_of (script_of h)) c next
  enters_second u v next e s = may_enter get_or_puts h script c 1 (put_of 1 7) v _ _ next _ s e (tt, record { few = omega arith; known = tt; covers = record { each = no_calls } }, tt)

  pub ends_second : (u v : Value) → Stands h c 1 (Serves 1) [] (done (put_of 2 7) u ∷ done (put_of 1 7) v ∷ []) → ByNote (meaning_of (script_of h)) c (MayAnswer nil_reply)
  ends_second u v s = may_end get_or_puts h script c 1 _ _ s refl

  pub declares_none : (next : List Symbol) → next ≡ [] → Stands h c 0 (Serves 0) may_get [] → ByNote (meaning_of (script_of h)) c (MayDeclare (foresight_of c) next)
  declares_none next e s = may_narrow get_or_puts h script c 0 next _ _ _ e s (tt, record { few = omega arith; known = tt; covers = record { each = no_calls } })

  pub ends_none : Stands h c 0 (Serves 0) [] [] → ByNote (meaning_of (script_of h)) c (MayAnswer nil_reply)
  ends_none s = may_end get_or_puts h script c 0 _ _ s refl

-- ---- what the calls leave
module _ (h : Hall ListView) (p q : Caller ListView) (k : IsCallerOf meaning_of h q) where
  pub began_so : (m : Meaning) (t u : ℕ) (r : Began) → r ≡ began.Ticket u → u ≡ t → BeganAs m p q r → Stands h q t (Serves t) (m.entry t) []
  began_so m t u r e n a =
      let R : Began → Type 0 = λ z. BeganAs m p q z in
      let T : ℕ → Type 0 = λ z. BeganTicket m p q z in
      let x = subst T n (subst R e a) in
      record { caller = k; stage = x.stage_is; foresight = x.foresight_is; entries = x.no_entries }

  pub all_begun_so : (m : Meaning) (r : Began) → r ≡ began.AllBegun → BeganAs m p q r → q.stage ≡ Out
  all_begun_so m r e a = let R : Began → Type 0 = λ z. BeganAs m p q z in (subst R e a).stage_is

module _ (h : Hall ListView) (p q : Caller ListView) (t : ℕ) (f : List Symbol) (es : List Entry) (k : IsCallerOf meaning_of h q) where
  pub declared_so : (m : Meaning) (next g : List Symbol) (r : Declared) → r ≡ declared.Yes → next ≡ g → Stands h p t (Serves t) f es → DeclaredAs m p q next r → Stands h q t (Serves t) g es
  declared_so m next g r e n s a =
      let R : Declared → Type 0 = λ z. DeclaredAs m p q next z in
      let x = of_serving p.stage t _ s.stage (subst R e a) in
      record { caller = k; stage = x.stage_is; foresight = x.foresight_is ∙ n; entries = x.entries_still ∙ s.entries }

  pub admitted_so : (m : Meaning) (op o : Op) (r : Admitting) → r ≡ admitting.Admitted → op ≡ o → Stands h p t (Serves t) f es → AdmittedAs m p q op r → Stands h q t (InFlight t o) f es
  admitted_so m op o r e n s a =
      let R : Admitting → Type 0 = λ z. AdmittedAs m p q op z in
      let x = of_serving p.stage t _ s.stage (subst R e a) in
      record { caller = k; stage = x.stage_is ∙ ap (λ z. InFlight t z) n; foresight = x.foresight_still ∙ s.foresight; entries = x.entries_still ∙ s.entries }

  pub applied_so : (m : Meaning) (op : Op) (shards turns : ℕ) (v : Value) (r : Applying) → r ≡ applying.Applied v → Stands h p t (InFlight t op) f es → AppliedAs m p q shards turns r → Stands h q t (Applied t op v) f es
  applied_so m op shards turns v r e s a =
      let R : Applying → Type 0 = λ z. AppliedAs m p q shards turns z in
      let x = of_flight p.stage t op _ s.stage (subst R e a) in
      record { caller = k; stage = x.stage_is; foresight = x.foresight_still ∙ s.foresight; entries = ap (λ n. entries (book_in n).journal t) x.note_still ∙ s.entries }

  pub finished_so : (m : Meaning) (op : Op) (v : Value) (next g : List Symbol) (r : Finishing) → r ≡ finishing.Done → next ≡ g → Stands h p t (Applied t op v) f es → FinishedAs m p q next r → Stands h q t (Serves t) g (es ++ done op v ∷ [])
  finished_so m op v next g r e n s a =
      let R : Finishing → Type 0 = λ z. FinishedAs m p q next z in
      let P : Stage → Type 0 = λ st. FinishedFrom m p q next st in
      let x = subst P s.stage (subst R e a) in
      record { caller = k; stage = x.stage_is; foresight = x.foresight_is ∙ n; entries = x.entries_more ∙ ap (λ l. l ++ done op v ∷ []) s.entries }

  pub ended_so : (m : Meaning) (y : Reply) (r : Ending) → r ≡ ending.Ended → Stands h p t (Serves t) f es → EndedAs m p q y r → q.stage ≡ Idle
  ended_so m y r e s a =
      let R : Ending → Type 0 = λ z. EndedAs m p q y z in
      (of_serving p.stage t _ s.stage (subst R e a)).stage_is
