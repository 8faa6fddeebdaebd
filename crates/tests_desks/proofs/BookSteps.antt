-- A book over a list of tickets, where it is known what the book has: what a call asks there, and
-- what it leaves.
use Rattle.std.proofs.Common.{◌≡◌, ℕ, ◌<◌, List, Option, Some, None, sym, ◌∙◌, subst}
use Rattle.session_values.specs.declared.op.Op.{Op}
use Rattle.session_values.specs.declared.reply.Reply.{Reply}
use Rattle.session_values.specs.declared.value.Value.{Value}
use Rattle.symbolic_ops.specs.declared.symbol.Symbol.{Symbol}
use Rattle.std.specs.Option.{IsSome}
use Rattle.session_journal.specs.Journal.{ended}
use Rattle.session_journal.specs.Lists.{ListView}
use Rattle.admission_book.specs.declared.admission.Admission.{Admission}
use Rattle.admission_book.specs.declared.admission.Admission.TheVariants.{Admitted, Delayed}
use Rattle.admission_book.specs.Book.{Book, Serving, record_of, after_narrow, after_admit, after_delay, after_done, after_end}
use Rattle.admission_book.specs.Methods.{BookView, StaysLawful, MayBeginNext, Begins, MayAdmit, MayEnd, HasEnded, MayDo, MayNarrow, DidIt, Narrowed, Admits}
use Rattle.tests_desks.specs.BookRows.{IsAt, meaning_of}
use Rattle.tests_desks.proofs.BookRows.{at_here}

module _ (s : ListView) (b : Book) (v : BookView ListView) (a : IsAt s b v) where
  here : (P : ListView → Book → Type 0) → P s b → P v.script v.book
  here P p = at_here P s b v.script v.book a.script a.book p

  pub asks_begin : (c : ℕ) (f : List Symbol) → MayBeginNext (meaning_of s) b c f → MayBeginNext (meaning_of v.script) v.book c f
  asks_begin c f m = here (λ z d. MayBeginNext (meaning_of z) d c f) m

  pub asks_narrow : (t : ℕ) (f g : List Symbol) → f ≡ g → MayNarrow (meaning_of s) b t g → MayNarrow (meaning_of v.script) v.book t f
  asks_narrow t f g e m = let P : List Symbol → Type 0 = λ l. MayNarrow (meaning_of v.script) v.book t l in subst P (sym e) (here (λ z d. MayNarrow (meaning_of z) d t g) m)

  pub asks_admit : (t : ℕ) (op q : Op) → op ≡ q → MayAdmit (meaning_of s) b t q → MayAdmit (meaning_of v.script) v.book t op
  asks_admit t op q e m = let P : Op → Type 0 = λ o. MayAdmit (meaning_of v.script) v.book t o in subst P (sym e) (here (λ z d. MayAdmit (meaning_of z) d t q) m)

  pub asks_do : (t : ℕ) (r : Value) (f g : List Symbol) → f ≡ g → MayDo (meaning_of s) b t r g → MayDo (meaning_of v.script) v.book t r f
  asks_do t r f g e m = let P : List Symbol → Type 0 = λ l. MayDo (meaning_of v.script) v.book t r l in subst P (sym e) (here (λ z d. MayDo (meaning_of z) d t r g) m)

  pub asks_end : (t : ℕ) (r q : Reply) → r ≡ q → MayEnd (meaning_of s) b t q → MayEnd (meaning_of v.script) v.book t r
  asks_end t r q e m = let P : Reply → Type 0 = λ x. MayEnd (meaning_of v.script) v.book t x in subst P (sym e) (here (λ z d. MayEnd (meaning_of z) d t q) m)

  pub asks_close : ((t : ℕ) → t < (meaning_of s).requests → IsSome (ended b.journal t)) → (t : ℕ) → t < (meaning_of v.script).requests → IsSome (ended v.book.journal t)
  asks_close m = here (λ z d. (t : ℕ) → t < (meaning_of z).requests → IsSome (ended d.journal t)) m

module _ (s : ListView) (b : Book) (v w : BookView ListView) (a : IsAt s b v) (k : StaysLawful ListView meaning_of v w) where
  step : (d : Book) → w.book ≡ d → IsAt s d w
  step d e = record { script = k.script ∙ a.script; book = e; lawful = k.lawful }

  pub has_begun_none : (c : ℕ) (f : List Symbol) (r : Option ℕ) → r ≡ None → Begins (meaning_of v.script) v.book c f r w.book → IsAt s b w
  has_begun_none c f r e h =
      let R : Option ℕ → Type 0 = λ z. Begins (meaning_of v.script) v.book c f z w.book in
      step b ((subst R e h).1 ∙ a.book)

  pub has_narrowed : (t : ℕ) (f g : List Symbol) (c : ℕ) (x : Serving) → f ≡ g → record_of b c ≡ Some x → x.ticket ≡ t → Narrowed v.book t f w.book → IsAt s (after_narrow b c x g) w
  has_narrowed t f g c x e i j h =
      let F : List Symbol → Type 0 = λ l. Narrowed v.book t l w.book in
      let B : Book → Type 0 = λ z. Narrowed z t g w.book in
      step (after_narrow b c x g) (subst B a.book (subst F e h) c x i j)

  answered : (t : ℕ) (op q : Op) (r n : Admission) → op ≡ q → r ≡ n → Admits v.book t op r w.book → Admits b t q n w.book
  answered t op q r n e g h =
      let O : Op → Type 0 = λ o. Admits v.book t o r w.book in
      let R : Admission → Type 0 = λ z. Admits v.book t q z w.book in
      let B : Book → Type 0 = λ z. Admits z t q n w.book in
      subst B a.book (subst R g (subst O e h))

  pub was_admitted : (t : ℕ) (op q : Op) (r : Admission) (c : ℕ) (x : Serving) → op ≡ q → r ≡ Admitted → record_of b c ≡ Some x → x.ticket ≡ t → Admits v.book t op r w.book → IsAt s (after_admit b c x q) w
  was_admitted t op q r c x e g i j h = step (after_admit b c x q) ((answered t op q r Admitted e g h).1 c x i j)

  pub was_delayed : (t : ℕ) (op q : Op) (r : Admission) (older : ℕ) (y : Symbol) → op ≡ q → r ≡ Delayed older y → Admits v.book t op r w.book → IsAt s (after_delay b t q older y) w
  was_delayed t op q r older y e g h = step (after_delay b t q older y) (answered t op q r (Delayed older y) e g h).1

  pub was_done : (t : ℕ) (r : Value) (f g : List Symbol) (c : ℕ) (x : Serving) (op : Op) → f ≡ g → record_of b c ≡ Some x → x.ticket ≡ t → x.flight ≡ Some op → DidIt v.book t r f w.book → IsAt s (after_done b c x op r g) w
  was_done t r f g c x op e i j l h =
      let F : List Symbol → Type 0 = λ z. DidIt v.book t r z w.book in
      let B : Book → Type 0 = λ z. DidIt z t r g w.book in
      step (after_done b c x op r g) (subst B a.book (subst F e h) c x op i j l)

  pub has_ended : (t : ℕ) (r q : Reply) (c : ℕ) (x : Serving) → r ≡ q → record_of b c ≡ Some x → x.ticket ≡ t → HasEnded v.book t r w.book → IsAt s (after_end b c x q) w
  has_ended t r q c x e i j h =
      let R : Reply → Type 0 = λ z. HasEnded v.book t z w.book in
      let B : Book → Type 0 = λ z. HasEnded z t q w.book in
      step (after_end b c x q) (subst B a.book (subst R e h) c x i j)
