-- What a caller of the counters of the tests holds between its steps.
use Rattle.std.proofs.Common.{◌≡◌, ◌≢◌, ℕ, zero, suc, ◌<◌, ◌⊎◌, inl, inr, List, [], ◌∷◌, ◌++◌, length, map, get_or, take, drop, refl, sym, ap, ◌∙◌, subst, arith}
use Rattle.std.specs.Prelude.{Option, Some, None, slice_get}
use Rattle.std.specs.Int.{bit_at}
use Rattle.std.proofs.lemmas.Nat.Bits.{bit_at_above, bit_at-lt}
use Rattle.std.proofs.lemmas.Option.{none-some, same_Some}
use mathlib.Core.Logic.{dite}
use native.Mathlib.Decide.{ℕ_discrete, dec_lt}
use Rattle.turn_board.specs.declared.seat.Seat.{Seat}
use Rattle.turn_board.specs.declared.board.Board.{Board}
use Rattle.turn_board.specs.Hands.{in_hands, put_back, Once}
use Rattle.turn_board.specs.Maps.{SameTurns, bits_of}
use Rattle.turn_board.specs.Boards.{IsSeatOf, held, SameNote, GainedAll, Booked, Released, Ends}
use Rattle.tests_threads.specs.Callers.{HasBoth}
use Rattle.turn_board.proofs.Rows.{two}
use Rattle.turn_board.proofs.Several.{else-in, here-in}

abbrev pub self : ℕ → ℕ
self v = v

-- one pair was put into empty hands, and taken out again
pub one-in : {A : Type 0} (l m r : List A) (x y : A) → m ≡ l ++ x ∷ [] → l ≡ [] → m ≡ y ∷ r → (x ≡ y) × (r ≡ [])
one-in {A} l m r x y e n f = let q : x ∷ [] ≡ y ∷ r = ap (λ (k : List A). k ++ x ∷ []) (sym n) ∙ sym e ∙ f in (same_Some x y (ap (λ (k : List A). slice_get k 0) q), sym (ap (drop 1) q))

module _ {R : Type 0} where
  rest-free : (p q : Seat ℕ R ℕ) (book : ℕ) (pairs : List (ℕ × ℕ)) (x : ℕ × ℕ) → Booked p q (put_back self book pairs) → pairs ≡ x ∷ [] → (t : ℕ) → t ≢ x.0 → held q t ≡ None
  rest-free p q book pairs x b is zero ne = b.book
  rest-free p q book pairs x b is (suc t) ne = b.others (suc t) (omega arith) ∙ ap (λ (l : List (ℕ × ℕ)). in_hands self l (suc t)) is ∙ else-in self x.0 (suc t) x.1 [] (λ e. ne (sym e))

  -- the book and the one counter were given back
  pub freed : (p q r : Seat ℕ R ℕ) (book : ℕ) (pairs : List (ℕ × ℕ)) (x : ℕ × ℕ) → Booked p q (put_back self book pairs) → pairs ≡ x ∷ [] → Released q r x.0 → (t : ℕ) → held r t ≡ None
  freed p q r book pairs x b is gave t = dite (ℕ_discrete t x.0) (λ e. ap (held r) e ∙ gave.here) (λ ne. gave.others t ne ∙ rest-free p q book pairs x b is t ne)

-- reads of lists
module _ {A : Type 0} where
  pub front-of : (n : ℕ) (xs ys : List A) → n ≡ length xs → take n (xs ++ ys) ≡ xs
  front-of zero [] ys e = refl
  front-of zero (x ∷ xs) ys e = absurd (omega arith)
  front-of (suc n) [] ys e = absurd (omega arith)
  front-of (suc n) (x ∷ xs) ys e = ap (λ (l : List A). x ∷ l) (front-of n xs ys (omega arith))

  pub read-as : (xs : List A) (i : ℕ) (a d : A) → slice_get xs i ≡ Some a → (i < length xs) × (get_or xs i d ≡ a)
  read-as [] i a d e = absurd (none-some a e)
  read-as (x ∷ xs) zero a d e = (omega arith, same_Some x a e)
  read-as (x ∷ xs) (suc i) a d e = let h = read-as xs i a d e in let n : i < length xs = h.0 in (omega arith, h.1)

-- a seat that holds nothing again
module _ {R : Type 0} where
  pub still-ends : (b : Board ℕ R ℕ) (n k : ℕ) (p q : Seat ℕ R ℕ) → Ends b n k p → IsSeatOf b q × SameNote p q → ((t : ℕ) → held q t ≡ None) → Ends b n k q
  still-ends b n k p q a s free' = record {
    seat = s.0;
    caller_is = s.1.caller_is ∙ a.caller_is;
    caller_count_is = s.1.caller_count_is ∙ a.caller_count_is;
    free = free';
  }

  -- a turn was taken and given back
  pub back-free : (p q r : Seat ℕ R ℕ) (t : ℕ) → ((u : ℕ) → u ≢ t → held q u ≡ held p u) → Released q r t → ((u : ℕ) → held p u ≡ None) → (u : ℕ) → held r u ≡ None
  back-free p q r t g b free' u = dite (ℕ_discrete u t) (λ e. ap (held r) e ∙ b.here) (λ ne. b.others u ne ∙ g u ne ∙ free' u)

-- the two turns of the set 6
pub in-set : (u : ℕ) → bit_at 6 u ≡ 1 → (u ≡ 1) ⊎ (u ≡ 2)
in-set zero e = absurd (omega arith)
in-set (suc zero) e = inl refl
in-set (suc (suc zero)) e = inr refl
in-set (suc (suc (suc u))) e = absurd (let z = bit_at_above 6 3 (suc (suc (suc u))) (omega arith) (omega arith) in omega arith)

not-in-set : (u : ℕ) → u ≢ 1 → u ≢ 2 → bit_at 6 u ≡ 0
not-in-set u n1 n2 = two (bit_at 6 u) (λ x. x ≡ 0) (bit_at-lt 6 u) (λ _. refl) (λ o. absurd (not-both (in-set u o)))
  where
    not-both : (u ≡ 1) ⊎ (u ≡ 2) → ⊥
    not-both (inl e) = n1 e
    not-both (inr e) = n2 e

pub two-of : {A : Type 0} (l : List (ℕ × A)) → map (λ (x : ℕ × A). x.0) l ≡ 1 ∷ 2 ∷ [] → (a b : A) × (l ≡ (1, a) ∷ (2, b) ∷ [])
two-of [] e = absurd (let n = ap length e in omega arith)
two-of (x ∷ []) e = absurd (let n = ap length e in omega arith)
two-of (x ∷ y ∷ []) e =
    let f = same_Some x.0 1 (ap (λ (l : List ℕ). slice_get l 0) e) in
    let s = same_Some y.0 2 (ap (λ (l : List ℕ). slice_get l 1) e) in
    (x.1, y.1, λ i. (f i, x.1) ∷ (s i, y.1) ∷ [])
two-of (x ∷ y ∷ z ∷ l) e = absurd (let n = ap length e in omega arith)

pub has-both : {R : Type 0} (p0 p q : Seat ℕ R ℕ) (before after : List (ℕ × ℕ)) (n : ℕ) → n ≡ 3 → before ≡ [] → ((u : ℕ) → held p u ≡ held p0 u) → GainedAll p q self n 6 before after → HasBoth p0 q after
has-both p0 p q before after n three none' same g =
    let new = two-of g.new (g.rising ∙ ap (bits_of 6) three) in
    let one = g.here 1 refl in
    let other = g.here 2 refl in
    record {
      even = new.0;
      odd = new.1;
      pairs_are = g.added ∙ ap (λ (l : List (ℕ × ℕ)). l ++ g.new) none' ∙ new.2;
      even_is = one.1 ∙ sym one.2 ∙ ap (λ (l : List (ℕ × ℕ)). in_hands self l 1) new.2;
      odd_is = other.1 ∙ sym other.2 ∙ ap (λ (l : List (ℕ × ℕ)). in_hands self l 2) new.2;
      others = λ u n1 n2. (g.others u (not-in-set u n1 n2)).0 ∙ same u;
    }

-- two pairs were taken out
pub two-out : {A : Type 0} (l r s : List A) (a b x y : A) → l ≡ a ∷ b ∷ [] → l ≡ x ∷ r → r ≡ y ∷ s → s ≡ []
two-out {A} l r s a b x y e f h =
    let q : a ∷ b ∷ [] ≡ x ∷ y ∷ s = sym e ∙ f ∙ ap (λ (k : List A). x ∷ k) h in sym (ap (drop 2) q)

-- two pairs were put into empty hands
pub pushed : {A : Type 0} (s l m : List A) (x y : A) → s ≡ [] → l ≡ s ++ x ∷ [] → m ≡ l ++ y ∷ [] → m ≡ x ∷ y ∷ []
pushed {A} s l m x y none' e f = f ∙ ap (λ (k : List A). k ++ y ∷ []) (e ∙ ap (λ (k : List A). k ++ x ∷ []) none')

-- what a caller that holds the book and one counter gives back
pub one-back : (old : ℕ → Option ℕ) (n book counter book' counter' : ℕ) (pairs : List (ℕ × ℕ)) → old 0 ≡ Some book → old (suc n) ≡ Some counter → ((u : ℕ) → u ≢ 0 → u ≢ suc n → old u ≡ None) → pairs ≡ (suc n, counter') ∷ [] → SameTurns old (put_back self book' pairs)
one-back old n book counter book' counter' pairs has-book has-counter rest is = subst (λ (l : List (ℕ × ℕ)). SameTurns old (put_back self book' l)) (sym is) (there, back)
  where
    there : (t : ℕ) → old t ≡ None → put_back self book' ((suc n, counter') ∷ []) t ≡ None
    there zero e = absurd (none-some book (sym e ∙ has-book))
    there (suc u) e = else-in self (suc n) (suc u) counter' [] (λ s. none-some counter (sym e ∙ ap old (sym s) ∙ has-counter))

    back : (t : ℕ) → put_back self book' ((suc n, counter') ∷ []) t ≡ None → old t ≡ None
    back zero e = absurd (none-some book' (sym e))
    back (suc u) e = dite (ℕ_discrete (suc u) (suc n)) (λ s. absurd (none-some counter' (sym e ∙ ap (in_hands self ((suc n, counter') ∷ [])) s ∙ here-in self (suc n) counter' []))) (λ ne. rest (suc u) (λ s. omega arith) ne)

-- what a caller that holds all three turns gives back
module _ (old : ℕ → Option ℕ) (book even odd : ℕ) (has-book : old 0 ≡ Some book) (has-even : old 1 ≡ Some even) (has-odd : old 2 ≡ Some odd) (rest : (u : ℕ) → u ≢ 0 → u ≢ 1 → u ≢ 2 → old u ≡ None)
    (book' even' odd' : ℕ) (pairs : List (ℕ × ℕ)) (is : pairs ≡ (1, even') ∷ (2, odd') ∷ []) where
  past : (u : ℕ) → in_hands self ((1, even') ∷ (2, odd') ∷ []) (suc (suc (suc u))) ≡ None
  past u = else-in self 1 (suc (suc (suc u))) even' ((2, odd') ∷ []) (λ e. omega arith) ∙ else-in self 2 (suc (suc (suc u))) odd' [] (λ e. omega arith)

  pub both-back : SameTurns old (put_back self book' pairs)
  both-back = subst (λ (l : List (ℕ × ℕ)). SameTurns old (put_back self book' l)) (sym is) (there, back)
    where
      there : (t : ℕ) → old t ≡ None → put_back self book' ((1, even') ∷ (2, odd') ∷ []) t ≡ None
      there zero e = absurd (none-some book (sym e ∙ has-book))
      there (suc zero) e = absurd (none-some even (sym e ∙ has-even))
      there (suc (suc zero)) e = absurd (none-some odd (sym e ∙ has-odd))
      there (suc (suc (suc u))) e = past u

      back : (t : ℕ) → put_back self book' ((1, even') ∷ (2, odd') ∷ []) t ≡ None → old t ≡ None
      back zero e = absurd (none-some book' (sym e))
      back (suc zero) e = absurd (none-some even' (sym e))
      back (suc (suc zero)) e = absurd (none-some odd' (sym e))
      back (suc (suc (suc u))) e = rest (suc (suc (suc u))) (λ s. omega arith) (λ s. omega arith) (λ s. omega arith)

  pub both-once : Once self pairs
  both-once = subst (λ (l : List (ℕ × ℕ)). Once self l) (sym is) (omega arith, refl, (omega arith, refl, tt))

-- the turns of the set 30
pub in-row : (u : ℕ) → bit_at 30 u ≡ 1 → (0 < u) × (u < 5)
in-row zero e = absurd (omega arith)
in-row (suc u) e = (omega arith, dite (dec_lt (suc u) 5) (λ h. h) (λ h. absurd (let z = bit_at_above 30 5 (suc u) (omega arith) (omega arith) in omega arith)))
