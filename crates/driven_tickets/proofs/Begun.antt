-- What an open ticket may still call is within what it declared as it began.
use Rattle.std.proofs.Common.{◌≡◌, ℕ, zero, suc, ◌<◌, List, [], ◌∷◌, ◌++◌, Option, Some, None, true, false, cond, eqb, length, slice_get, refl, sym, ◌∙◌, ap, subst, append-nil, append_assoc, arith}
use Rattle.std.specs.List.{AllByRecursion}
use Rattle.std.proofs.lemmas.Option.{same_Some}
use Rattle.std.proofs.lemmas.Bool.{eqb-true}
use Rattle.session_values.specs.declared.op.Op.{Op}
use Rattle.session_values.specs.Tables.{Tables}
use Rattle.symbolic_ops.specs.declared.symbol.Symbol.{Symbol}
use Rattle.symbolic_ops.specs.Matching.{Matches}
use Rattle.symbolic_ops.proofs.Above.{covered_matches}
use Rattle.driven_tickets.specs.declared.answers.Called.TheVariants as called
use Rattle.driven_tickets.specs.Acts.{Act, Begins, Calls, Narrows, Ends, DeskState, HasBegun, HasNarrowed, HasEnded, Run, opened}
use Rattle.driven_tickets.specs.Commuting.{AllListsCommute, CommutesWithOlder, ListsCommute, begun_in}
use Rattle.driven_tickets.specs.Desk.{CalledAs, DeskView, IsDesk, state_of}
use Rattle.driven_tickets.proofs.Delays.{commuting}

-- a ticket began with a list that stands for all that this one stands for
record IsWithin (fs : List (List Symbol)) (t : ℕ) (g : List Symbol) : Type 0 where
  list : List Symbol
  is : slice_get fs t ≡ Some list
  each : (op : Op) → Matches g op → Matches list op

record AreWithin (p : DeskState) (fs : List (List Symbol)) : Type 0 where
  next : p.next ≡ length fs
  at : (t : ℕ) (g : List Symbol) → p.at t ≡ Some g → IsWithin fs t g

get-front : (fs gs : List (List Symbol)) (t : ℕ) (f : List Symbol) → slice_get fs t ≡ Some f → slice_get (fs ++ gs) t ≡ Some f
get-front [] gs t f h = absurd (cc h)
get-front (x ∷ fs) gs zero f h = h
get-front (x ∷ fs) gs (suc t) f h = get-front fs gs t f h

get-last : (fs : List (List Symbol)) (f : List Symbol) → slice_get (fs ++ f ∷ []) (length fs) ≡ Some f
get-last [] f = refl
get-last (x ∷ fs) f = get-last fs f

length-push : (fs : List (List Symbol)) (f : List Symbol) → length (fs ++ f ∷ []) ≡ suc (length fs)
length-push [] f = refl
length-push (x ∷ fs) f = ap suc (length-push fs f)

module _ (p q : DeskState) (fs : List (List Symbol)) (w : AreWithin p fs) where
  begun : (f : List Symbol) → HasBegun p q f → AreWithin q (fs ++ f ∷ [])
  begun f h = record {
    next = h.next_more ∙ ap suc w.next ∙ sym (length-push fs f);
    at = λ t g is. elim (eqb t p.next) as (λ b. eqb t p.next ≡ b → IsWithin (fs ++ f ∷ []) t g) [
      | true ↦ λ e.
          let e_list : f ≡ g = same_Some f g (sym (h.at_is t ∙ ap (λ b. cond b (Some f) (p.at t)) e) ∙ is) in
          let P : ℕ → Type 0 = λ k. slice_get (fs ++ f ∷ []) k ≡ Some f in
          let Q : List Symbol → Type 0 = λ x. IsWithin (fs ++ f ∷ []) t x in
          subst Q e_list (record { list = f; is = subst P (sym (eqb-true t p.next e ∙ w.next)) (get-last fs f); each = λ op m. m })
      | false ↦ λ e.
          let one : IsWithin fs t g = w.at t g (sym (h.at_is t ∙ ap (λ b. cond b (Some f) (p.at t)) e) ∙ is) in
          record { list = one.list; is = get-front fs (f ∷ []) t one.list one.is; each = one.each }
    ] refl;
  }

  narrowed : (t : ℕ) (f : List Symbol) → HasNarrowed p q t f → AreWithin q fs
  narrowed t f h = record {
    next = h.next_still ∙ w.next;
    at = λ u g is. elim (eqb u t) as (λ b. eqb u t ≡ b → IsWithin fs u g) [
      | true ↦ λ e.
          let e_list : f ≡ g = same_Some f g (sym (h.at_is u ∙ ap (λ b. cond b (Some f) (p.at u)) e) ∙ is) in
          let one : IsWithin fs u h.declared = w.at u h.declared (ap p.at (eqb-true u t e) ∙ h.is) in
          let Q : List Symbol → Type 0 = λ x. IsWithin fs u x in
          subst Q e_list (record { list = one.list; is = one.is; each = λ op m. one.each op (covered_matches f h.declared op h.covered m) })
      | false ↦ λ e. w.at u g (sym (h.at_is u ∙ ap (λ b. cond b (Some f) (p.at u)) e) ∙ is)
    ] refl;
  }

  still : q.next ≡ p.next → ((u : ℕ) → q.at u ≡ p.at u) → AreWithin q fs
  still next at = record { next = next ∙ w.next; at = λ u g is. w.at u g (sym (at u) ∙ is) }

  ended : (t : ℕ) → HasEnded p q t → AreWithin q fs
  ended t h = record {
    next = h.next_still ∙ w.next;
    at = λ u g is. elim (eqb u t) as (λ b. eqb u t ≡ b → IsWithin fs u g) [
      | true ↦ λ e. let none : ◌≡◌ {A = Option (List Symbol)} None (Some g) = sym (h.at_is u ∙ ap (λ b. cond b None (p.at u)) e) ∙ is in absurd (cc none)
      | false ↦ λ e. w.at u g (sym (h.at_is u ∙ ap (λ b. cond b None (p.at u)) e) ∙ is)
    ] refl;
  }

within : (p : DeskState) (acts : List Act) (q : DeskState) (fs : List (List Symbol)) → AreWithin p fs → Run p acts q → AreWithin q (fs ++ begun_in acts)
within p [] q fs w r =
    let P : DeskState → Type 0 = λ x. AreWithin x (fs ++ []) in
    let Q : List (List Symbol) → Type 0 = λ l. AreWithin p l in
    subst P (sym r) (subst Q (sym (append-nil fs)) w)
within p (Begins f ∷ acts) q fs w r =
    let Q : List (List Symbol) → Type 0 = λ l. AreWithin q l in
    subst Q (append_assoc fs (f ∷ []) (begun_in acts)) (within r.0 acts q (fs ++ f ∷ []) (begun p r.0 fs w f r.1) r.2)
within p (Calls t op v ∷ acts) q fs w r = within r.0 acts q fs (still p r.0 fs w r.1.next_still r.1.at_still) r.2
within p (Narrows t g ∷ acts) q fs w r = within r.0 acts q fs (narrowed p r.0 fs w t g r.1) r.2
within p (Ends t ∷ acts) q fs w r = within r.0 acts q fs (ended p r.0 fs w t r.1) r.2

first : (ts : Tables) → AreWithin (opened ts) []
first ts = record { next = refl; at = λ t g is. absurd (cc is) }

-- ---- any two of the lists
at : (f : List Symbol) (fs : List (List Symbol)) (t : ℕ) (g : List Symbol) → AllByRecursion (λ x. ListsCommute x f) fs → slice_get fs t ≡ Some g → ListsCommute g f
at f [] t g all is = absurd (cc is)
at f (x ∷ fs) zero g all is = let P : List Symbol → Type 0 = λ y. ListsCommute y f in subst P (same_Some x g is) all.0
at f (x ∷ fs) (suc t) g all is = at f fs t g all.1 is

two : (fs : List (List Symbol)) (t u : ℕ) (f g : List Symbol) → AllListsCommute fs → u < t → slice_get fs t ≡ Some f → slice_get fs u ≡ Some g → ListsCommute f g
two [] t u f g all l is_f is_g = absurd (cc is_f)
two (x ∷ fs) zero u f g all l is_f is_g = let no : ⊥ = omega (arith, l) in absurd no
two (x ∷ fs) (suc t) zero f g all l is_f is_g = let P : List Symbol → Type 0 = λ y. ListsCommute f y in subst P (same_Some x g is_g) (at x fs t f all.0 is_f)
two (x ∷ fs) (suc t) (suc u) f g all l is_f is_g = let l2 : u < t = omega (arith, l) in two fs t u f g all.1 l2 is_f is_g

pub never_delayed : (d e : DeskView) (t u : ℕ) (op : Op) → IsDesk d → AllListsCommute (begun_in d.acts) → CalledAs d e t op (called.Delayed u) → ⊥
never_delayed d e t u op k all h =
    let w : AreWithin (state_of d) (begun_in d.acts) = within (opened d.opening) d.acts (state_of d) [] (first d.opening) k.run in
    let among : CommutesWithOlder d t = λ b f g l is_f is_g.
    let x : IsWithin (begun_in d.acts) t f = w.at t f is_f in
    let y : IsWithin (begun_in d.acts) b g = w.at b g is_g in
    λ m n match_m match_n. two (begun_in d.acts) t b x.list y.list all l x.is y.is m n (x.each m match_m) (y.each n match_n) in
    commuting d e t u op among h
