-- The book of the test: what each call asks, and what it leaves.
use Rattle.std.proofs.Common.{◌≡◌, ℕ, zero, suc, ◌<◌, ◌^◌, List, [], ◌∷◌, inl, Some, None, refl, sym, ◌∙◌, ap, subst, arith}
use Rattle.session_values.specs.declared.op.Op.{Op}
use Rattle.session_values.specs.declared.reply.Reply.{Reply}
use Rattle.session_values.specs.declared.value.Value.{Value}
use Rattle.session_values.specs.declared.value.Value.TheVariants.{Nil}
use Rattle.session_values.specs.Dialogue.{Calls, Answers}
use Rattle.session_values.specs.Tables.{Container, Bindings, Members, Tables, reply, reply_on, table}
use Rattle.symbolic_ops.specs.declared.symbol.Symbol.{Symbol}
use Rattle.symbolic_ops.specs.Foresight.{ForesightView}
use Rattle.symbolic_ops.specs.Matching.{Covered, Matches, StandsFor, exact_symbol}
use Rattle.session_values.specs.Op.{IsHeld}
use Rattle.session_values.specs.Values.{IsValue}
use Rattle.session_values.proofs.EntriesFacts.{same_call}
use Rattle.std.specs.List.{AllByRecursion}
use Rattle.std.specs.Option.{IsSome}
use Rattle.symbolic_ops.proofs.Above.{covered_itself, exact_stands}
use Rattle.session_journal.specs.Journal.{begun, ended}
use Rattle.session_journal.specs.Lists.{ListView, says}
use Rattle.session_journal.specs.Script.{IsForesight, IsScript}
use Rattle.admission_book.specs.declared.admission.Admission.{Admission}
use Rattle.admission_book.specs.declared.admission.Admission.TheVariants.{Admitted, Delayed}
use Rattle.admission_book.specs.Book.{Book, Serving, after_delay}
use Rattle.admission_book.specs.Methods.{BookView, StaysLawful, MayAdmit, MayEnd, HasEnded, MayDo, MayNarrow, DidIt, Narrowed, Admits}
use Rattle.tests_desks.specs.BookRows.{IsAt, gets_and_put, all_begun, delayed, narrowed_one, narrowed, in_flight, has_put, one_ended, two_ended, all_ended, meaning_of, put_of, get_of, nil_reply}

-- a fact of the script and the book, where they are known
pub at_here : (P : ListView → Book → Type 0) (s : ListView) (b : Book) (w : ListView) (d : Book) → w ≡ s → d ≡ b → P s b → P w d
at_here P s b w d e h p =
    let Q : ListView → Type 0 = λ x. P x b in
    let R : Book → Type 0 = λ x. P w x in
    subst R (sym h) (subst Q (sym e) p)

-- ---- a put that a program can hold
held_put : (k v : ℕ) → k < 2 ^ 63 → v < 2 ^ 63 → IsHeld (put_of k v)
held_put k v l m = record { key = l; value = m; unused = (λ h. absurd (omega (arith, h)), λ h. absurd (omega (arith, h))) }

pub put_stands : (k v : ℕ) → k < 2 ^ 63 → v < 2 ^ 63 → StandsFor (exact_symbol (put_of k v)) (put_of k v)
put_stands k v l m = exact_stands (put_of k v) (held_put k v l m)

-- ---- what is still called is declared
pub no_calls : (more : List Value) (op : Op) → AllByRecursion IsValue more → says [] nil_reply more ≡ Calls op → Matches [] op
no_calls more op values e = impossible nil_reply op e
  where
    impossible : (r : Reply) (op : Op) → Answers r ≡ Calls op → ⊥
    impossible r op e = cc

pub calls_put : (more : List Value) (op : Op) → AllByRecursion IsValue more → says (put_of 1 7 ∷ []) nil_reply more ≡ Calls op → Matches (exact_symbol (put_of 1 7) ∷ []) op
calls_put [] op values e = let P : Op → Type 0 = λ o. StandsFor (exact_symbol (put_of 1 7)) o in inl (subst P (same_call (put_of 1 7) op e) (put_stands 1 7 (omega arith) (omega arith)))
calls_put (v ∷ more) op values e = absurd (no_calls more op values.1 e)

pub put_is_nil : (ts : Tables) (k v : ℕ) → Nil ≡ reply ts (put_of k v)
unfolding reply
put_is_nil ts k v = go (table ts 0)
  where
    go : (c : Container) → Nil ≡ reply_on c (put_of k v)
    go (Bindings m) = refl
    go (Members m) = refl

pub cleared : (f : ForesightView) (room : ℕ) → f ≡ record { symbols = []; room = room } → f.symbols ≡ []
cleared f room e = ap (λ (x : ForesightView). x.symbols) e

-- what a ticket declares at its beginning may be its foresight then
pub begins_so : (z s : ListView) (b : Book) (t room : ℕ) (out : ForesightView) → IsScript (meaning_of z) → s ≡ z → t ≡ begun b.journal → out ≡ record { symbols = (meaning_of s).entry t; room = room } → IsForesight ((meaning_of z).next (begun b.journal)) out.symbols × Covered out.symbols ((meaning_of z).entry (begun b.journal))
begins_so z s b t room out kept same next is =
    let n : ℕ = begun b.journal in
    let P : List Symbol → Type 0 = λ l. IsForesight ((meaning_of z).next n) l × Covered l ((meaning_of z).entry n) in
    let e : out.symbols ≡ (meaning_of z).entry n = ap (λ (x : ForesightView). x.symbols) is ∙ (λ i. (meaning_of (same i)).entry (next i)) in
    subst P (sym e) (kept.entry n, covered_itself ((meaning_of z).entry n) (kept.entry n).known)

-- ---- one call after another
abbrev pub waiting : ℕ → List Symbol → Serving
waiting t f = record { ticket = t; foresight = f; flight = None }

step : (b d : Book) (v w : BookView ListView) → IsAt gets_and_put b v → StaysLawful ListView meaning_of v w → w.book ≡ d → IsAt gets_and_put d w
step b d v w a s e = record { script = s.script ∙ a.script; book = e; lawful = s.lawful }

here : (P : ListView → Book → Type 0) (b : Book) (v : BookView ListView) → IsAt gets_and_put b v → P gets_and_put b → P v.script v.book
here P b v a p = at_here P gets_and_put b v.script v.book a.script a.book p

answered_so : (b : Book) (r s : Admission) (d : Book) → r ≡ s → Admits b 2 (put_of 2 7) r d → Admits b 2 (put_of 2 7) s d
answered_so b r s d e h = let P : Admission → Type 0 = λ x. Admits b 2 (put_of 2 7) x d in subst P e h

pub may_admit : (v : BookView ListView) → IsAt gets_and_put all_begun v → MayAdmit (meaning_of v.script) v.book 2 (put_of 2 7)
may_admit v a = here (λ z b. MayAdmit (meaning_of z) b 2 (put_of 2 7)) all_begun v a
    (record { caller = 2; serving = waiting 2 (exact_symbol (put_of 2 7) ∷ []); is = refl; ticket = refl; idle = refl; calls = refl; matches = inl (put_stands 2 7 (omega arith) (omega arith)) })

module _ (older : ℕ) (y : Symbol) (v w : BookView ListView) (s : StaysLawful ListView meaning_of v w) where
  pub was_delayed : (r : Admission) → IsAt gets_and_put all_begun v → Admits v.book 2 (put_of 2 7) r w.book → r ≡ Delayed older y → IsAt gets_and_put (delayed older y) w
  was_delayed r a h e = step all_begun (delayed older y) v w a s ((answered_so v.book r (Delayed older y) w.book e h).1 ∙ ap (λ (b : Book). after_delay b 2 (put_of 2 7) older y) a.book)

  narrows : (b : Book) (t : ℕ) (x : Serving) (f : List Symbol) → v.book ≡ b → f ≡ [] → Narrowed v.book t f w.book → Narrowed b t [] w.book
  narrows b t x f a k n = let P : List Symbol → Type 0 = λ l. Narrowed v.book t l w.book in let Q : Book → Type 0 = λ z. Narrowed z t [] w.book in subst Q a (subst P k n)

  pub has_narrowed_one : (f : List Symbol) → IsAt gets_and_put (delayed older y) v → f ≡ [] → Narrowed v.book 0 f w.book → IsAt gets_and_put (narrowed_one older y) w
  has_narrowed_one f a k n = step (delayed older y) (narrowed_one older y) v w a s (narrows (delayed older y) 0 (waiting 0 []) f a.book k n 0 (waiting 0 (exact_symbol (get_of 1) ∷ exact_symbol (get_of 2) ∷ [])) refl refl)

  pub has_narrowed : (f : List Symbol) → IsAt gets_and_put (narrowed_one older y) v → f ≡ [] → Narrowed v.book 1 f w.book → IsAt gets_and_put (narrowed older y) w
  has_narrowed f a k n = step (narrowed_one older y) (narrowed older y) v w a s (narrows (narrowed_one older y) 1 (waiting 1 []) f a.book k n 1 (waiting 1 (exact_symbol (get_of 1) ∷ exact_symbol (get_of 2) ∷ [])) refl refl)

  pub was_admitted : (r : Admission) → IsAt gets_and_put (narrowed older y) v → Admits v.book 2 (put_of 2 7) r w.book → r ≡ Admitted → IsAt gets_and_put (in_flight older y) w
  was_admitted r a h e =
      let Q : Book → Type 0 = λ z. Admits z 2 (put_of 2 7) Admitted w.book in
      step (narrowed older y) (in_flight older y) v w a s ((subst Q a.book (answered_so v.book r Admitted w.book e h)).1 2 (waiting 2 (exact_symbol (put_of 2 7) ∷ [])) refl refl)

  pub was_done : (f : List Symbol) → IsAt gets_and_put (in_flight older y) v → f ≡ [] → DidIt v.book 2 Nil f w.book → IsAt gets_and_put (has_put older y) w
  was_done f a k d =
      let P : List Symbol → Type 0 = λ l. DidIt v.book 2 Nil l w.book in
      let Q : Book → Type 0 = λ z. DidIt z 2 Nil [] w.book in
      step (in_flight older y) (has_put older y) v w a s (subst Q a.book (subst P k d) 2 (record { ticket = 2; foresight = exact_symbol (put_of 2 7) ∷ []; flight = Some (put_of 2 7) }) (put_of 2 7) refl refl refl)

  pub one_has_ended : IsAt gets_and_put (has_put older y) v → HasEnded v.book 0 nil_reply w.book → IsAt gets_and_put (one_ended older y) w
  one_has_ended a h = let Q : Book → Type 0 = λ z. HasEnded z 0 nil_reply w.book in step (has_put older y) (one_ended older y) v w a s (subst Q a.book h 0 (waiting 0 []) refl refl)

  pub two_have_ended : IsAt gets_and_put (one_ended older y) v → HasEnded v.book 1 nil_reply w.book → IsAt gets_and_put (two_ended older y) w
  two_have_ended a h = let Q : Book → Type 0 = λ z. HasEnded z 1 nil_reply w.book in step (one_ended older y) (two_ended older y) v w a s (subst Q a.book h 1 (waiting 1 []) refl refl)

  pub three_have_ended : IsAt gets_and_put (two_ended older y) v → HasEnded v.book 2 nil_reply w.book → IsAt gets_and_put (all_ended older y) w
  three_have_ended a h = let Q : Book → Type 0 = λ z. HasEnded z 2 nil_reply w.book in step (two_ended older y) (all_ended older y) v w a s (subst Q a.book h 2 (waiting 2 []) refl refl)

module _ (older : ℕ) (y : Symbol) (v : BookView ListView) where
  narrows_to : (b : Book) (t : ℕ) (f : List Symbol) → IsAt gets_and_put b v → f ≡ [] → MayNarrow (meaning_of gets_and_put) b t [] → MayNarrow (meaning_of v.script) v.book t f
  narrows_to b t f a k m = let P : List Symbol → Type 0 = λ l. MayNarrow (meaning_of v.script) v.book t l in subst P (sym k) (here (λ z d. MayNarrow (meaning_of z) d t []) b v a m)

  pub may_narrow_one : (f : List Symbol) → IsAt gets_and_put (delayed older y) v → f ≡ [] → MayNarrow (meaning_of v.script) v.book 0 f
  may_narrow_one f a k = narrows_to (delayed older y) 0 f a k (record { caller = 0; serving = waiting 0 (exact_symbol (get_of 1) ∷ exact_symbol (get_of 2) ∷ []); is = refl; ticket = refl; idle = refl; covered = tt; covers = record { few = omega arith; known = tt; covers = record { each = no_calls } } })

  pub may_narrow : (f : List Symbol) → IsAt gets_and_put (narrowed_one older y) v → f ≡ [] → MayNarrow (meaning_of v.script) v.book 1 f
  may_narrow f a k = narrows_to (narrowed_one older y) 1 f a k (record { caller = 1; serving = waiting 1 (exact_symbol (get_of 1) ∷ exact_symbol (get_of 2) ∷ []); is = refl; ticket = refl; idle = refl; covered = tt; covers = record { few = omega arith; known = tt; covers = record { each = no_calls } } })

  pub may_admit_now : IsAt gets_and_put (narrowed older y) v → MayAdmit (meaning_of v.script) v.book 2 (put_of 2 7)
  may_admit_now a = here (λ z b. MayAdmit (meaning_of z) b 2 (put_of 2 7)) (narrowed older y) v a
      (record { caller = 2; serving = waiting 2 (exact_symbol (put_of 2 7) ∷ []); is = refl; ticket = refl; idle = refl; calls = refl; matches = inl (put_stands 2 7 (omega arith) (omega arith)) })

  pub may_do : (f : List Symbol) → IsAt gets_and_put (in_flight older y) v → f ≡ [] → MayDo (meaning_of v.script) v.book 2 Nil f
  may_do f a k =
      let P : List Symbol → Type 0 = λ l. MayDo (meaning_of v.script) v.book 2 Nil l in
      subst P (sym k) (here (λ z b. MayDo (meaning_of z) b 2 Nil []) (in_flight older y) v a (record {
        caller = 2;
        serving = record { ticket = 2; foresight = exact_symbol (put_of 2 7) ∷ []; flight = Some (put_of 2 7) };
        op = put_of 2 7;
        is = refl;
        ticket = refl;
        flight = refl;
        reply_is = put_is_nil _ 2 7;
        covered = tt;
        covers = record { few = omega arith; known = tt; covers = record { each = no_calls } };
        declared = tt;
      }))

  pub may_end_one : IsAt gets_and_put (has_put older y) v → MayEnd (meaning_of v.script) v.book 0 nil_reply
  may_end_one a = here (λ z b. MayEnd (meaning_of z) b 0 nil_reply) (has_put older y) v a (record { caller = 0; serving = waiting 0 []; is = refl; ticket = refl; idle = refl; answers = refl })

  pub may_end_two : IsAt gets_and_put (one_ended older y) v → MayEnd (meaning_of v.script) v.book 1 nil_reply
  may_end_two a = here (λ z b. MayEnd (meaning_of z) b 1 nil_reply) (one_ended older y) v a (record { caller = 1; serving = waiting 1 []; is = refl; ticket = refl; idle = refl; answers = refl })

  pub may_end_three : IsAt gets_and_put (two_ended older y) v → MayEnd (meaning_of v.script) v.book 2 nil_reply
  may_end_three a = here (λ z b. MayEnd (meaning_of z) b 2 nil_reply) (two_ended older y) v a (record { caller = 2; serving = waiting 2 []; is = refl; ticket = refl; idle = refl; answers = refl })

  pub all_have_ended : IsAt gets_and_put (all_ended older y) v → (t : ℕ) → t < (meaning_of v.script).requests → IsSome (ended v.book.journal t)
  all_have_ended a = here (λ z b. (t : ℕ) → t < (meaning_of z).requests → IsSome (ended b.journal t)) (all_ended older y) v a known
    where
      known : (t : ℕ) → t < 3 → IsSome (ended (all_ended older y).journal t)
      known zero l = refl
      known (suc zero) l = refl
      known (suc (suc zero)) l = refl
      known (suc (suc (suc t))) l = absurd (omega (arith, l))

-- ---- an operation or a reply that a function made, in the form of the rows
pub admits_as : (b d : Book) (t : ℕ) (op q : Op) (r : Admission) → op ≡ q → Admits b t op r d → Admits b t q r d
admits_as b d t op q r e h = let P : Op → Type 0 = λ o. Admits b t o r d in subst P e h

pub ended_as : (b d : Book) (t : ℕ) (r q : Reply) → r ≡ q → HasEnded b t r d → HasEnded b t q d
ended_as b d t r q e h = let P : Reply → Type 0 = λ o. HasEnded b t o d in subst P e h
