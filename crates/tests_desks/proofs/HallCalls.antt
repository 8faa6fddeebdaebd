-- What the calls of two callers ask, and what they leave.
use Rattle.std.proofs.Common.{◌≡◌, ℕ, zero, suc, List, [], ◌∷◌, ◌++◌, length, drop, get_or, Some, inl, inr, refl, sym, ◌∙◌, ap, subst, arith}
use Rattle.std.proofs.lemmas.Option.{same_Some, none-some}
use Rattle.std.specs.Prelude.{slice_get}
use Rattle.session_values.specs.declared.op.Op.{Op}
use Rattle.session_values.specs.declared.reply.Reply.{Reply}
use Rattle.session_values.specs.declared.value.Value.{Value}
use Rattle.session_values.specs.Dialogue.{Calls, Answers, Entry, replies, rest}
use Rattle.symbolic_ops.specs.declared.symbol.Symbol.{Symbol}
use Rattle.symbolic_ops.specs.Foresight.{ForesightView}
use Rattle.symbolic_ops.specs.Matching.{Covered, Matches, exact_symbol}
use Rattle.symbolic_ops.proofs.Above.{exact_stands}
use Rattle.session_journal.specs.Journal.{entries}
use Rattle.session_journal.specs.Lists.{ListView}
use Rattle.session_journal.specs.Script.{IsForesight, Meaning}
use Rattle.admission_book.specs.Book.{Book}
use Rattle.session_hall.specs.declared.caller.Caller.{Caller}
use Rattle.session_hall.specs.declared.hall.Hall.{Hall}
use Rattle.session_hall.specs.declared.stage.Stage.{Stage}
use Rattle.session_hall.specs.declared.stage.Stage.TheVariants.{Idle, Serving as Serves, InFlight, Applied}
use Rattle.session_hall.specs.declared.answers.Admitting.{Admitting}
use Rattle.session_hall.specs.declared.answers.Admitting.TheVariants as admitting
use Rattle.session_hall.specs.declared.answers.Applying.{Applying}
use Rattle.session_hall.specs.declared.answers.Applying.TheVariants as applying
use Rattle.session_hall.specs.Callers.{IsCallerOf, book_in, book_of, entries_of, foresight_of}
use Rattle.session_hall.specs.Calls.{AdmittedAs, AppliedAs, ByNote, MayAnswer, MayCall, MayDeclare, MayFinish, MayFinishAt}
use Rattle.session_hall.specs.Closings.{Leaves}
use Rattle.session_hall.specs.Names.{script_of}
use Rattle.session_hall.specs.Stages.{IsBetween, IsInFlight, OnFlight}
use Rattle.session_hall.specs.Waits.{AdmittedAfter, AppliedAfter, DeclaredAfter, EndedAfter, FinishedAfter, FinishedAfterFrom}
use Rattle.session_hall.proofs.Moving.{first_at, shifted}
use Rattle.session_hall.proofs.Tickets.{of_serving, on_serving}
use Rattle.tests_desks.specs.BookRows.{get_of, list_entry, meaning_of, nil_reply, put_of}
use Rattle.tests_desks.specs.HallRows.{Stands, done, gets_and_puts}
use Rattle.tests_desks.proofs.BookRows.{calls_put, no_calls, put_stands}

get_stands : Matches (exact_symbol (get_of 4) ∷ exact_symbol (get_of 1) ∷ []) (get_of 4)
get_stands = inl (exact_stands (get_of 4) (record { key = omega arith; value = tt; unused = (λ h. absurd (omega (arith, h)), λ h. refl) }))

pub of_flight : (st : Stage) (t : ℕ) (op : Op) (P : ℕ → Op → Type 0) → st ≡ InFlight t op → OnFlight st P → P t op
of_flight st t op P e p = let Q : Stage → Type 0 = λ s. OnFlight s P in subst Q e p

pub in_flight : (st : Stage) (t : ℕ) (op : Op) → st ≡ InFlight t op → IsInFlight st
in_flight st t op e = let P : Stage → Type 0 = λ s. IsInFlight s in subst P (sym e) tt

pub between : (st : Stage) → st ≡ Idle → IsBetween st
between st e = let P : Stage → Type 0 = λ s. IsBetween s in subst P (sym e) tt

-- a list was emptied and one symbol put into it
pub pushed : (f g : ForesightView) (s y : Symbol) (room : ℕ) → g ≡ record { symbols = []; room = room } → f ≡ record { symbols = g.symbols ++ s ∷ []; room = g.room } → s ≡ y → f.symbols ≡ y ∷ []
pushed f g s y room e h k = ap (λ (x : ForesightView). x.symbols) h ∙ ap (λ (x : ForesightView). x.symbols ++ s ∷ []) e ∙ ap (λ (x : Symbol). x ∷ []) k

-- ---- what the calls ask, of a caller of a hall over a list of tickets
module _ (z : ListView) (h : Hall ListView) (script : script_of h ≡ z) (c : Caller ListView) where
  fact_at : (P : Meaning → List Symbol → List Entry → Type 0) (t : ℕ) (st : Stage) (f : List Symbol) (es : List Entry) → Stands h c t st f es → P (meaning_of z) f es → P (meaning_of (script_of h)) (foresight_of c) (entries_of c t)
  fact_at P t st f es s p =
      let M : ListView → Type 0 = λ y. P (meaning_of y) (foresight_of c) (entries_of c t) in
      let F : List Symbol → Type 0 = λ g. P (meaning_of z) g (entries_of c t) in
      let E : List Entry → Type 0 = λ l. P (meaning_of z) f l in
      subst M (sym script) (subst F (sym s.foresight) (subst E (sym s.entries) p))

  -- with what the ticket declares at its beginning
  pub begins : (t : ℕ) (f : List Symbol) → list_entry z t ≡ f → Stands h c t (Serves t) (list_entry (script_of h) t) [] → Stands h c t (Serves t) f []
  begins t f e s = record { caller = s.caller; stage = s.stage; foresight = s.foresight ∙ ap (λ y. list_entry y t) script ∙ e; entries = s.entries }

  pub may_call : (t : ℕ) (op : Op) (f : List Symbol) (es : List Entry) → Stands h c t (Serves t) f es → ((meaning_of z).next t (replies es) ≡ Calls op) × Matches f op → ByNote (meaning_of (script_of h)) c (MayCall (foresight_of c) op)
  may_call t op f es s p = on_serving c.stage t (λ u. MayCall (foresight_of c) op (meaning_of (script_of h)) (book_of c) u) s.stage (fact_at (λ m g l. (m.next t (replies l) ≡ Calls op) × Matches g op) t _ f es s p)

  pub may_enter : (t : ℕ) (op : Op) (v : Value) (f : List Symbol) (es : List Entry) (next g : List Symbol) → Stands h c t (Applied t op v) f es → next ≡ g → Covered g f × IsForesight (rest ((meaning_of z).next t) (replies (es ++ done op v ∷ []))) g × Covered g ((meaning_of z).told t (replies (es ++ done op v ∷ []))) → MayFinish (meaning_of (script_of h)) c next
  may_enter t op v f es next g s e p =
      let S : Stage → Type 0 = λ st. MayFinishAt (meaning_of (script_of h)) st (foresight_of c) (book_of c) next in
      let N : List Symbol → Type 0 = λ l. MayFinishAt (meaning_of (script_of h)) (Applied t op v) (foresight_of c) (book_of c) l in
      subst S (sym s.stage) (subst N (sym e) (fact_at (λ m k l. Covered g k × IsForesight (rest (m.next t) (replies (l ++ done op v ∷ []))) g × Covered g (m.told t (replies (l ++ done op v ∷ [])))) t _ f es s p))

  pub may_end : (t : ℕ) (f : List Symbol) (es : List Entry) → Stands h c t (Serves t) f es → (meaning_of z).next t (replies es) ≡ Answers nil_reply → ByNote (meaning_of (script_of h)) c (MayAnswer nil_reply)
  may_end t f es s p = on_serving c.stage t (λ u. MayAnswer nil_reply (meaning_of (script_of h)) (book_of c) u) s.stage (fact_at (λ m l k. m.next t (replies k) ≡ Answers nil_reply) t _ f es s p)

  pub may_narrow : (t : ℕ) (next g f : List Symbol) (es : List Entry) → next ≡ g → Stands h c t (Serves t) f es → Covered g f × IsForesight (rest ((meaning_of z).next t) (replies es)) g → ByNote (meaning_of (script_of h)) c (MayDeclare (foresight_of c) next)
  may_narrow t next g f es e s p =
      let N : List Symbol → Type 0 = λ l. MayDeclare (foresight_of c) l (meaning_of (script_of h)) (book_of c) t in
      on_serving c.stage t (λ u. MayDeclare (foresight_of c) next (meaning_of (script_of h)) (book_of c) u) s.stage
      (subst N (sym e) (fact_at (λ m l k. Covered g l × IsForesight (rest (m.next t) (replies k)) g) t _ f es s p))

-- ---- of a caller of the hall over the two tickets
module _ (h : Hall ListView) (script : script_of h ≡ gets_and_puts) (c : Caller ListView) where
  pub may_get : Stands h c 0 (Serves 0) (exact_symbol (get_of 4) ∷ exact_symbol (get_of 1) ∷ []) [] → ByNote (meaning_of (script_of h)) c (MayCall (foresight_of c) (get_of 4))
  may_get s = may_call gets_and_puts h script c 0 (get_of 4) _ _ s (refl, get_stands)

  pub may_put_2 : Stands h c 1 (Serves 1) (exact_symbol (put_of 2 7) ∷ exact_symbol (put_of 1 7) ∷ []) [] → ByNote (meaning_of (script_of h)) c (MayCall (foresight_of c) (put_of 2 7))
  may_put_2 s = may_call gets_and_puts h script c 1 (put_of 2 7) _ _ s (refl, inl (put_stands 2 7 (omega arith) (omega arith)))

  pub may_put_1 : (v : Value) → Stands h c 1 (Serves 1) (exact_symbol (put_of 1 7) ∷ []) (done (put_of 2 7) v ∷ []) → ByNote (meaning_of (script_of h)) c (MayCall (foresight_of c) (put_of 1 7))
  may_put_1 v s = may_call gets_and_puts h script c 1 (put_of 1 7) _ _ s (refl, inl (put_stands 1 7 (omega arith) (omega arith)))

  pub may_enter_get : (v : Value) (next : List Symbol) → next ≡ exact_symbol (get_of 1) ∷ [] → Stands h c 0 (Applied 0 (get_of 4) v) (exact_symbol (get_of 4) ∷ exact_symbol (get_of 1) ∷ []) [] → MayFinish (meaning_of (script_of h)) c next
  may_enter_get v next e s = may_enter gets_and_puts h script c 0 (get_of 4) v _ _ next _ s e (
    (inr (inl (record { kind = refl; table = refl; key = refl; value = refl })), tt),
    record { few = omega arith; known = ((tt, tt), tt); covers = record { each = λ more op values e. absurd (no_calls more op values e) } },
    (inr (inl (record { kind = refl; table = refl; key = refl; value = refl })), tt),
  )

  pub may_enter_2 : (v : Value) (next : List Symbol) → next ≡ exact_symbol (put_of 1 7) ∷ [] → Stands h c 1 (Applied 1 (put_of 2 7) v) (exact_symbol (put_of 2 7) ∷ exact_symbol (put_of 1 7) ∷ []) [] → MayFinish (meaning_of (script_of h)) c next
  may_enter_2 v next e s = may_enter gets_and_puts h script c 1 (put_of 2 7) v _ _ next _ s e (
    (inr (inl (record { kind = refl; table = refl; key = refl; value = refl })), tt),
    record { few = omega arith; known = ((tt, tt), tt); covers = record { each = calls_put } },
    (inr (inl (record { kind = refl; table = refl; key = refl; value = refl })), tt),
  )

  pub may_enter_1 : (u v : Value) (next : List Symbol) → next ≡ [] → Stands h c 1 (Applied 1 (put_of 1 7) v) (exact_symbol (put_of 1 7) ∷ []) (done (put_of 2 7) u ∷ []) → MayFinish (meaning_of (script_of h)) c next
  may_enter_1 u v next e s = may_enter gets_and_puts h script c 1 (put_of 1 7) v _ _ next _ s e (tt, record { few = omega arith; known = tt; covers = record { each = no_calls } }, tt)

  pub may_declare : (v : Value) (f : List Symbol) → f ≡ [] → Stands h c 0 (Serves 0) (exact_symbol (get_of 1) ∷ []) (done (get_of 4) v ∷ []) → ByNote (meaning_of (script_of h)) c (MayDeclare (foresight_of c) f)
  may_declare v f e s = may_narrow gets_and_puts h script c 0 f _ _ _ e s (tt, record { few = omega arith; known = tt; covers = record { each = no_calls } })

  pub may_end_0 : (v : Value) → Stands h c 0 (Serves 0) [] (done (get_of 4) v ∷ []) → ByNote (meaning_of (script_of h)) c (MayAnswer nil_reply)
  may_end_0 v s = may_end gets_and_puts h script c 0 _ _ s refl

  pub may_end_1 : (v w : Value) → Stands h c 1 (Serves 1) [] (done (put_of 2 7) v ∷ done (put_of 1 7) w ∷ []) → ByNote (meaning_of (script_of h)) c (MayAnswer nil_reply)
  may_end_1 v w s = may_end gets_and_puts h script c 1 _ _ s refl

-- ---- what the calls leave
-- the operation in flight is this one
pub flies : (h : Hall ListView) (c : Caller ListView) (t : ℕ) (f : List Symbol) (es : List Entry) (op q : Op) → op ≡ q → Stands h c t (InFlight t op) f es → Stands h c t (InFlight t q) f es
flies h c t f es op q e s = let P : Op → Type 0 = λ o. Stands h c t (InFlight t o) f es in subst P e s

module _ (h : Hall ListView) (p q : Caller ListView) (t : ℕ) (f : List Symbol) (es : List Entry) (k : IsCallerOf meaning_of h q) where
  pub has_admitted : (m : Meaning) (op : Op) → Stands h p t (Serves t) f es → AdmittedAfter m p q op → Stands h q t (InFlight t op) f es
  has_admitted m op s a = let x = of_serving p.stage t _ s.stage a in record { caller = k; stage = x.2.stage_is; foresight = x.3 ∙ s.foresight; entries = x.4 ∙ s.entries }

  pub has_applied : (m : Meaning) (op : Op) (shards turns : ℕ) (v : Value) → Stands h p t (InFlight t op) f es → AppliedAfter m p q shards turns v → Stands h q t (Applied t op v) f es
  has_applied m op shards turns v s a = let x = of_flight p.stage t op _ s.stage a in record { caller = k; stage = x.2.stage_is; foresight = x.3 ∙ s.foresight; entries = ap (λ (b : Book). entries b.journal t) x.4 ∙ s.entries }

  pub has_entered : (m : Meaning) (op : Op) (v : Value) (next g : List Symbol) → next ≡ g → Stands h p t (Applied t op v) f es → FinishedAfter m p q next → Stands h q t (Serves t) g (es ++ done op v ∷ [])
  has_entered m op v next g e s a =
      let P : Stage → Type 0 = λ st. FinishedAfterFrom m p q next st in
      let x = subst P s.stage a in
      record { caller = k; stage = x.2.stage_is; foresight = x.2.foresight_is ∙ e; entries = x.3 ∙ ap (λ l. l ++ done op v ∷ []) s.entries }

  pub has_declared : (m : Meaning) (next g : List Symbol) → next ≡ g → Stands h p t (Serves t) f es → DeclaredAfter m p q next → Stands h q t (Serves t) g es
  has_declared m next g e s a = let x = of_serving p.stage t _ s.stage a in record { caller = k; stage = x.2.stage_is; foresight = x.2.foresight_is ∙ e; entries = x.3 ∙ s.entries }

  pub was_busy : (m : Meaning) (op : Op) (shards turns u : ℕ) (r : Applying) → r ≡ applying.Busy u → Stands h p t (InFlight t op) f es → AppliedAs m p q shards turns r → Stands h q t (InFlight t op) f es
  was_busy m op shards turns u r e s a =
      let P : Applying → Type 0 = λ z. AppliedAs m p q shards turns z in
      let x = of_flight p.stage t op _ s.stage (subst P e a) in
      record { caller = k; stage = x.busy.stage_still ∙ s.stage; foresight = x.busy.foresight_still ∙ s.foresight; entries = ap (λ n. entries (book_in n).journal t) x.busy.note_still ∙ s.entries }

  pub was_delayed : (m : Meaning) (op : Op) (older : ℕ) (y : Symbol) (r : Admitting) → r ≡ admitting.Delayed older y → Stands h p t (Serves t) f es → AdmittedAs m p q op r → Stands h q t (Serves t) f es
  was_delayed m op older y r e s a =
      let P : Admitting → Type 0 = λ z. AdmittedAs m p q op z in
      let x = of_serving p.stage t _ s.stage (subst P e a) in
      record { caller = k; stage = x.stage_is; foresight = x.foresight_still ∙ s.foresight; entries = x.entries_still ∙ s.entries }

  pub has_ended : (m : Meaning) (r : Reply) → Stands h p t (Serves t) f es → EndedAfter m p q r → q.stage ≡ Idle
  has_ended m r s a = let x = of_serving p.stage t _ s.stage a in x.2.stage_is

-- ---- the callers of a hall
-- the second one
pub second_at : {A : Type 0} (xs ys : List A) (a : A) → length xs ≡ 2 → ys ≡ drop 1 xs → a ≡ get_or ys 0 a → slice_get xs 1 ≡ Some a
second_at {A} xs ys a l is e = shifted xs 0 a (first_at (drop 1 xs) a (omega (arith, one_less xs l)) (e ∙ ap (λ (z : List A). get_or z 0 a) is))
  where
    one_less : (zs : List A) → length zs ≡ 2 → length (drop 1 zs) ≡ 1
    one_less [] h = absurd (omega (arith, h))
    one_less (z ∷ zs) h = omega (arith, h)

-- the two of a hall, moved behind the others, of which there are none
pub both_leave : (h : Hall ListView) (xs ys zs list : List (Caller ListView)) (a b : Caller ListView) → length xs ≡ 2 → ys ≡ drop 1 xs → zs ≡ drop 1 ys → list ≡ (zs ++ a ∷ []) ++ b ∷ [] → Leaves meaning_of h 0 a → Leaves meaning_of h 1 b → (i : ℕ) (d : Caller ListView) → slice_get list i ≡ Some d → Leaves meaning_of h i d
both_leave h xs ys zs list a b two r s is first second i d e = go zs (ap length (s ∙ ap (λ (l : List (Caller ListView)). drop 1 l) r) ∙ none xs two) i (ap (λ (l : List (Caller ListView)). slice_get l i) (sym is) ∙ e)
  where
    none : (ws : List (Caller ListView)) → length ws ≡ 2 → length (drop 1 (drop 1 ws)) ≡ 0
    none [] l = refl
    none (w ∷ []) l = refl
    none (w ∷ v ∷ ws) l = omega (arith, l)

    go : (ws : List (Caller ListView)) → length ws ≡ 0 → (i : ℕ) → slice_get ((ws ++ a ∷ []) ++ b ∷ []) i ≡ Some d → Leaves meaning_of h i d
    go [] l zero e = let P : Caller ListView → Type 0 = λ z. Leaves meaning_of h 0 z in subst P (same_Some a d e) first
    go [] l (suc zero) e = let P : Caller ListView → Type 0 = λ z. Leaves meaning_of h 1 z in subst P (same_Some b d e) second
    go [] l (suc (suc i)) e = absurd (none-some d e)
    go (w ∷ ws) l i e = absurd (omega (arith, l))
