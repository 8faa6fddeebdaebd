-- What the open tickets declare after one begins, narrows or ends, and that they still ascend.
use Rattle.std.proofs.Common.{◌≡◌, ℕ, zero, suc, ◌<◌, ◌≤◌, Bool, true, false, List, [], ◌∷◌, ◌++◌, Option, Some, None, cond, eqb, get_or, length, take, set, refl, sym, ◌∙◌, ap, subst, arith}
use Rattle.std.specs.List.{remove}
use Rattle.std.proofs.lemmas.Bool.Decides.{nat_tests}
use Rattle.std.proofs.lemmas.Bool.{eq-eqb, eqb-true}
use Rattle.symbolic_ops.specs.declared.symbol.Symbol.{Symbol}
use Rattle.driven_tickets.specs.declared.open_ticket.OpenTicket.{OpenTicket}
use Rattle.driven_tickets.specs.Tickets.{AreAscending, IsAt, IsOldestOpen, declared_in}

abbrev Declares : Type 0
Declares = Option (List Symbol)

abbrev list_of : OpenTicket → Declares
list_of o = Some o.declared.symbols

apart : (a b : ℕ) → a < b → eqb a b ≡ false
apart a b l = grind (arith, nat_tests)

-- ---- a place behind the first
-- the first ticket is another one
other : (x : OpenTicket) (os : List OpenTicket) (i t : ℕ) → IsAt (x ∷ os) t (suc i) → eqb t x.ticket ≡ false
other x os i t a =
    elim (eqb t x.ticket) as (λ b. cond b (list_of x) (declared_in (take i os) t) ≡ None → b ≡ false) [
      | true ↦ λ k. absurd (cc k)
      | false ↦ λ k. refl
    ] a.first

behind : (x : OpenTicket) (os : List OpenTicket) (i t : ℕ) → IsAt (x ∷ os) t (suc i) → IsAt os t i
behind x os i t a = record {
  within = omega (arith, a.within);
  is = λ o q. a.is o q;
  first = ap (λ b. cond b (list_of x) (declared_in (take i os) t)) (sym (other x os i t a)) ∙ a.first;
}

-- ---- ascending
most : (n m : ℕ) (os : List OpenTicket) → AreAscending n os m → n ≤ m
most n m [] h = h
most n m (o ∷ os) h = let l : suc o.ticket ≤ m = most (suc o.ticket) m os h.1 in omega (arith, l, h.0)

pub ascending-push : (n m : ℕ) (os : List OpenTicket) (o : OpenTicket) → AreAscending n os m → o.ticket ≡ m → AreAscending n (os ++ o ∷ []) (suc m)
ascending-push n m [] o h e = (omega (arith, h, e), omega (arith, e))
ascending-push n m (x ∷ os) o h e = (h.0, ascending-push (suc x.ticket) m os o h.1 e)

pub ascending-set : (n m : ℕ) (os : List OpenTicket) (i t : ℕ) (o : OpenTicket) → AreAscending n os m → IsAt os t i → o.ticket ≡ t → AreAscending n (set os i o) m
ascending-set n m [] i t o h a e = h
ascending-set n m (x ∷ os) zero t o h a e =
    let is : x.ticket ≡ o.ticket = a.is x refl ∙ sym e in
    let P : ℕ → Type 0 = λ k. (n ≤ k) × AreAscending (suc k) os m in
    subst P is h
ascending-set n m (x ∷ os) (suc i) t o h a e = (h.0, ascending-set (suc x.ticket) m os i t o h.1 (behind x os i t a) e)

weaker : (k n m : ℕ) (os : List OpenTicket) → k ≤ n → AreAscending n os m → AreAscending k os m
weaker k n m [] l h = omega (arith, l, h)
weaker k n m (o ∷ os) l h = (omega (arith, l, h.0), h.1)

pub ascending-removed : (n m : ℕ) (os : List OpenTicket) (i : ℕ) → AreAscending n os m → AreAscending n (remove os i) m
ascending-removed n m [] zero h = h
ascending-removed n m [] (suc i) h = h
ascending-removed n m (x ∷ os) zero h = weaker n (suc x.ticket) m os (omega (arith, h.0)) h.1
ascending-removed n m (x ∷ os) (suc i) h = (h.0, ascending-removed (suc x.ticket) m os i h.1)

-- ---- what is declared
-- nobody below the first ticket is open
under : (n m : ℕ) (os : List OpenTicket) (u : ℕ) → AreAscending n os m → u < n → declared_in os u ≡ None
under n m [] u h l = refl
under n m (x ∷ os) u h l =
    ap (λ b. cond b (list_of x) (declared_in os u)) (apart u x.ticket (omega (arith, l, h.0))) ∙ under (suc x.ticket) m os u h.1 (omega (arith, l, h.0))

-- nor anybody from the limit on
pub over : (n m : ℕ) (os : List OpenTicket) (u : ℕ) → AreAscending n os m → m ≤ u → declared_in os u ≡ None
over n m [] u h l = refl
over n m (x ∷ os) u h l =
    let k : suc x.ticket ≤ m = most (suc x.ticket) m os h.1 in
    ap (λ b. cond b (list_of x) (declared_in os u)) (above u x.ticket (omega (arith, k, l))) ∙ over (suc x.ticket) m os u h.1 l
  where
    above : (a b : ℕ) → b < a → eqb a b ≡ false
    above a b l = grind (arith, nat_tests)

-- the first ticket is the oldest
pub first_oldest : (n m : ℕ) (o : OpenTicket) (os : List OpenTicket) → AreAscending n (o ∷ os) m → IsOldestOpen (o ∷ os) o.ticket
first_oldest n m o os h = record {
  list = o.declared.symbols;
  is = ap (λ b. cond b (list_of o) (declared_in os o.ticket)) (eq-eqb o.ticket o.ticket refl);
  least = λ u l.
      ap (λ b. cond b (list_of o) (declared_in os u)) (apart u o.ticket l)
      ∙ under (suc o.ticket) m os u h.1 (omega (arith, l));
}

pub oldest_at : (m : ℕ) (os : List OpenTicket) (r : OpenTicket) → AreAscending 0 os m → 0 < length os → r ≡ get_or os 0 r → IsOldestOpen os r.ticket
oldest_at m [] r h l is = absurd (omega (arith, l))
oldest_at m (o ∷ os) r h l is = subst (λ (x : OpenTicket). IsOldestOpen (o ∷ os) x.ticket) (sym is) (first_oldest 0 m o os h)

-- nobody is open below the limit 0
pub none_below_zero : (os : List OpenTicket) → AreAscending 0 os 0 → os ≡ []
none_below_zero [] h = refl
none_below_zero (o ∷ os) h = let l : suc o.ticket ≤ 0 = most (suc o.ticket) 0 os h.1 in absurd (omega (arith, l))

-- a ticket that is open comes after one that is below all
pub later : (n m : ℕ) (os : List OpenTicket) (u k : ℕ) (f : List Symbol) → AreAscending n os m → declared_in os u ≡ Some f → k < n → eqb u k ≡ false
later n m os u k f h is l =
    elim (eqb u k) as (λ b. eqb u k ≡ b → b ≡ false) [
      | true ↦ λ q. let e : u ≡ k = eqb-true u k q in let no : declared_in os u ≡ None = under n m os u h (omega (arith, l, e)) in cc (no, is)
      | false ↦ λ q. refl
    ] refl

pub declared-push : (n m : ℕ) (os : List OpenTicket) (o : OpenTicket) (u : ℕ) → AreAscending n os m → o.ticket ≡ m → declared_in (os ++ o ∷ []) u ≡ cond (eqb u m) (list_of o) (declared_in os u)
declared-push n m [] o u h e = ap (λ k. cond (eqb u k) (list_of o) None) e
declared-push n m (x ∷ os) o u h e =
    elim (eqb u x.ticket) as (λ b. eqb u x.ticket ≡ b → cond b (list_of x) (declared_in (os ++ o ∷ []) u) ≡ cond (eqb u m) (list_of o) (cond b (list_of x) (declared_in os u))) [
      | true ↦ λ q.
          let l : suc x.ticket ≤ m = most (suc x.ticket) m os h.1 in
          let is : u ≡ x.ticket = eqb-true u x.ticket q in
          sym (ap (λ b. cond b (list_of o) (list_of x)) (apart u m (omega (arith, l, is))))
      | false ↦ λ q. declared-push (suc x.ticket) m os o u h.1 e
    ] refl

pub declared-set : (os : List OpenTicket) (i t : ℕ) (o : OpenTicket) (u : ℕ) → IsAt os t i → o.ticket ≡ t → declared_in (set os i o) u ≡ cond (eqb u t) (list_of o) (declared_in os u)
declared-set [] i t o u a e = let no : ⊥ = omega (arith, a.within) in absurd no
declared-set (x ∷ os) zero t o u a e =
    let P : ℕ → Type 0 = λ k. cond (eqb u o.ticket) (list_of o) (declared_in os u) ≡ cond (eqb u t) (list_of o) (cond (eqb u k) (list_of x) (declared_in os u)) in
    let Q : ℕ → Type 0 = λ k. cond (eqb u k) (list_of o) (declared_in os u) ≡ cond (eqb u t) (list_of o) (cond (eqb u t) (list_of x) (declared_in os u)) in
    subst P (sym (a.is x refl)) (subst Q (sym e) (twice (eqb u t)))
  where
    twice : (b : Bool) → cond b (list_of o) (declared_in os u) ≡ cond b (list_of o) (cond b (list_of x) (declared_in os u))
    twice true = refl
    twice false = refl
declared-set (x ∷ os) (suc i) t o u a e =
    elim (eqb u x.ticket) as (λ b. eqb u x.ticket ≡ b → cond b (list_of x) (declared_in (set os i o) u) ≡ cond (eqb u t) (list_of o) (cond b (list_of x) (declared_in os u))) [
      | true ↦ λ q.
          let is : u ≡ x.ticket = eqb-true u x.ticket q in
          sym (ap (λ b. cond b (list_of o) (list_of x)) (ap (λ k. eqb k t) is ∙ swapped x.ticket t (other x os i t a)))
      | false ↦ λ q. declared-set os i t o u (behind x os i t a) e
    ] refl
  where
    swapped : (a b : ℕ) → eqb b a ≡ false → eqb a b ≡ false
    swapped a b e = grind (arith, nat_tests)

pub declared-removed : (n m : ℕ) (os : List OpenTicket) (i t u : ℕ) → AreAscending n os m → IsAt os t i → declared_in (remove os i) u ≡ cond (eqb u t) None (declared_in os u)
declared-removed n m [] i t u h a = let no : ⊥ = omega (arith, a.within) in absurd no
declared-removed n m (x ∷ os) zero t u h a =
    let P : ℕ → Type 0 = λ k. declared_in os u ≡ cond (eqb u k) None (cond (eqb u x.ticket) (list_of x) (declared_in os u)) in
    subst P (a.is x refl) (elim (eqb u x.ticket) as (λ b. eqb u x.ticket ≡ b → declared_in os u ≡ cond b None (cond b (list_of x) (declared_in os u))) [
      | true ↦ λ q. let is : u ≡ x.ticket = eqb-true u x.ticket q in under (suc x.ticket) m os u h.1 (omega (arith, is))
      | false ↦ λ q. refl
    ] refl)
declared-removed n m (x ∷ os) (suc i) t u h a =
    elim (eqb u x.ticket) as (λ b. eqb u x.ticket ≡ b → cond b (list_of x) (declared_in (remove os i) u) ≡ cond (eqb u t) None (cond b (list_of x) (declared_in os u))) [
      | true ↦ λ q.
          let is : u ≡ x.ticket = eqb-true u x.ticket q in
          sym (ap (λ b. cond b None (list_of x)) (ap (λ k. eqb k t) is ∙ swapped x.ticket t (other x os i t a)))
      | false ↦ λ q. declared-removed (suc x.ticket) m os i t u h.1 (behind x os i t a)
    ] refl
  where
    swapped : (a b : ℕ) → eqb b a ≡ false → eqb a b ≡ false
    swapped a b e = grind (arith, nat_tests)

-- a later limit
pub ascending-more : (n m l : ℕ) (os : List OpenTicket) → m ≤ l → AreAscending n os m → AreAscending n os l
ascending-more n m l [] k h = omega (arith, k, h)
ascending-more n m l (o ∷ os) k h = (h.0, ascending-more (suc o.ticket) m l os k h.1)

-- ---- who is open
pub record Opened (os : List OpenTicket) (t : ℕ) : Type 0 where
  pub list : List Symbol
  pub is : declared_in os t ≡ Some list

pub open_at : (os : List OpenTicket) (t i : ℕ) → IsAt os t i → Opened os t
open_at [] t i a = let no : ⊥ = omega (arith, a.within) in absurd no
open_at (x ∷ os) t zero a = record {
  list = x.declared.symbols;
  is = ap (λ b. cond b (list_of x) (declared_in os t)) (eq-eqb t x.ticket (sym (a.is x refl)));
}
open_at (x ∷ os) t (suc i) a =
    let one : Opened os t = open_at os t i (behind x os i t a) in
    record {
      list = one.list;
      is = ap (λ b. cond b (list_of x) (declared_in os t)) (other x os i t a) ∙ one.is;
    }
