-- Slots that hold places: how they are read, filled, changed with one another and freed.
use Rattle.std.proofs.Common.{◌≡◌, ◌≢◌, ℕ, zero, suc, ◌+◌, ◌-◌, ◌<◌, ◌≤◌, ◌⊎◌, inl, inr, min, cond, eqb, List, [], ◌∷◌, length, get_or, sum_by, refl, sym, ◌∙◌, ap, subst, arith}
use Rattle.std.proofs.lemmas.Bool.{cases_lt, cases_eq, cond-true, cond-false, eq-eqb, ne_eqb}
use Rattle.std.proofs.lemmas.List.{get_or_past}
use Rattle.std.proofs.lemmas.List.Sums.{sum_by-cons}
use Rattle.shard_tables.specs.Slots.{distance, HoldsPlaces, IsReached}
use Rattle.shard_tables.proofs.Distances.{distance_is, same_distance, distance-lt}

-- one for a taken slot
abbrev pub one : ℕ → ℕ
one x = min x 1

pub taken_in : (xs : List ℕ) (s : ℕ) → 0 < get_or xs s 0 → s < length xs
taken_in xs s h = elim (cases_lt s (length xs)) [
  | inl l ↦ l
  | inr g ↦ absurd (omega (arith, get_or_past xs s 0 g, h))
]

pub all_taken : (xs : List ℕ) → ((s : ℕ) → s < length xs → 0 < get_or xs s 0) → sum_by one xs ≡ length xs
all_taken [] h = refl
all_taken (x ∷ xs) h =
    omega (arith, sum_by-cons one x xs, all_taken xs (λ s l. h (suc s) (omega arith)), h 0 (omega arith))

-- a search that has passed taken slots alone hasn't come round to where it began
pub goes_on : (m n : ℕ) (xs : List ℕ) (h t : ℕ) → HoldsPlaces m n xs → n < m → h < m → t < m → ((u : ℕ) → u < m → distance m h u < distance m h t → 0 < get_or xs u 0) → 0 < get_or xs t 0 → distance m h t + 1 < m
goes_on m n xs h t holds few p q passed here = elim (cases_lt (distance m h t + 1) m) [
  | inl l ↦ l
  | inr g ↦ absurd (omega (arith, few, holds.taken, holds.long, all_taken xs (λ u l. taken u (omega (arith, holds.long)) g)))
]
  where
    taken : (u : ℕ) → u < m → m ≤ distance m h t + 1 → 0 < get_or xs u 0
    taken u l g = elim (cases_lt (distance m h u) (distance m h t)) [
      | inl b ↦ passed u l b
      | inr e ↦
          let same : u ≡ t = same_distance m h u t p l q (omega (arith, distance-lt m h u p l, e, g)) in
          let P : ℕ → Type 0 = λ v. 0 < get_or xs v 0 in subst P (sym same) here
    ]

-- ---- two slots change what they hold
-- the slot that had before what slot s has then
abbrev pub other : ℕ → ℕ → ℕ → ℕ
other a b s = cond (eqb s a) b (cond (eqb s b) a s)

pub other_is : (a b s : ℕ) → ((s ≡ a) × (other a b s ≡ b)) ⊎ (((s ≢ a) × (s ≡ b) × (other a b s ≡ a)) ⊎ ((s ≢ a) × (s ≢ b) × (other a b s ≡ s)))
other_is a b s = elim (cases_eq s a) [
  | inl e ↦ inl (e, cond-true (eqb s a) b (cond (eqb s b) a s) (eq-eqb s a e))
  | inr n ↦ inr (elim (cases_eq s b) [
    | inl e ↦ inl (n, e, cond-false (eqb s a) b (cond (eqb s b) a s) (ne_eqb s a n) ∙ cond-true (eqb s b) a s (eq-eqb s b e))
    | inr o ↦ inr (n, o, cond-false (eqb s a) b (cond (eqb s b) a s) (ne_eqb s a n) ∙ cond-false (eqb s b) a s (ne_eqb s b o))
  ])
]

pub same_other : (a b s t : ℕ) → other a b s ≡ other a b t → s ≡ t
same_other a b s t e = grind (arith, other_is a b s, other_is a b t)

pub other_other : (a b s : ℕ) → other a b (other a b s) ≡ s
other_other a b s = grind (arith, other_is a b s, other_is a b (other a b s))

-- what the slots hold after two of them have changed what they hold
pub record Changed (xs ys : List ℕ) (a b : ℕ) : Type 0 where
  pub long : length ys ≡ length xs
  pub sum : sum_by one ys ≡ sum_by one xs
  pub at : (s : ℕ) → get_or ys s 0 ≡ get_or xs (other a b s) 0

pub changed_holds : (m n : ℕ) (xs ys : List ℕ) (a b : ℕ) → HoldsPlaces m n xs → Changed xs ys a b → HoldsPlaces m n ys
changed_holds m n xs ys a b holds ch = record {
  long = ch.long ∙ holds.long;
  taken = ch.sum ∙ holds.taken;
  few = λ s. omega (arith, ch.at s, holds.few (other a b s));
  once = λ s t p e. same_other a b s t (holds.once (other a b s) (other a b t) (omega (arith, ch.at s)) (sym (ch.at s) ∙ e ∙ ch.at t));
  there = λ p l. let w = holds.there p l in (other a b w.0, ch.at (other a b w.0) ∙ ap (λ (s : ℕ). get_or xs s 0) (other_other a b w.0) ∙ w.1);
}

-- ---- how many slots a search passes
-- how many of the first k slots are taken
abbrev taken_below : List ℕ → ℕ → ℕ
taken_below [] k = 0
taken_below (x ∷ xs) zero = 0
taken_below (x ∷ xs) (suc k) = one x + taken_below xs k

taken_below-le : (xs : List ℕ) (k : ℕ) → taken_below xs k ≤ sum_by one xs
taken_below-le [] k = omega arith
taken_below-le (x ∷ xs) zero = omega arith
taken_below-le (x ∷ xs) (suc k) = omega (arith, sum_by-cons one x xs, taken_below-le xs k)

taken_below-grows : (xs : List ℕ) (j k : ℕ) → j ≤ k → taken_below xs j ≤ taken_below xs k
taken_below-grows [] j k l = omega arith
taken_below-grows (x ∷ xs) zero k l = omega arith
taken_below-grows (x ∷ xs) (suc j) zero l = absurd (omega arith)
taken_below-grows (x ∷ xs) (suc j) (suc k) l = omega (arith, taken_below-grows xs j k (omega arith))

taken_between : (xs : List ℕ) (j k : ℕ) → j ≤ k → k ≤ length xs → ((s : ℕ) → j ≤ s → s < k → 0 < get_or xs s 0) → taken_below xs j + (k - j) ≤ taken_below xs k
taken_between [] j k l w h = omega arith
taken_between (x ∷ xs) zero zero l w h = omega arith
taken_between (x ∷ xs) zero (suc k) l w h = omega (arith, h 0 (omega arith) (omega arith), taken_between xs 0 k (omega arith) (omega arith) (λ s _ b. h (suc s) (omega arith) (omega arith)), taken_below-zero xs)
  where
    taken_below-zero : (xs : List ℕ) → taken_below xs 0 ≡ 0
    taken_below-zero [] = refl
    taken_below-zero (x ∷ xs) = refl
taken_between (x ∷ xs) (suc j) zero l w h = absurd (omega arith)
taken_between (x ∷ xs) (suc j) (suc k) l w h = omega (arith, taken_between xs j k (omega arith) (omega arith) (λ s a b. h (suc s) (omega arith) (omega arith)))

-- a search passes no more slots than are taken
pub few_passed : (m n : ℕ) (xs : List ℕ) (h s : ℕ) → HoldsPlaces m n xs → h < m → s < m → IsReached m h xs s → distance m h s ≤ n
few_passed m n xs h s holds p q path = elim (distance_is m h s) [
  | inl e ↦ omega (arith, e.0, e.1, holds.taken, taken_below-le xs s, taken_between xs h s e.0 (omega (arith, holds.long)) (λ t a b. path t (omega arith) (nearer t a b e)))
  | inr e ↦
      let first = taken_between xs h m (omega arith) (omega (arith, holds.long)) (λ t a b. path t b (before t a b e)) in
      let rest = taken_between xs 0 s (omega arith) (omega (arith, holds.long)) (λ t a b. path t (omega arith) (behind t b e)) in
      omega (arith, e.0, e.1, first, rest, taken_below-le xs m, taken_below-grows xs s h (omega (arith, e.0)), holds.taken)
]
  where
    nearer : (t : ℕ) → h ≤ t → t < s → (h ≤ s) × (distance m h s ≡ s - h) → distance m h t < distance m h s
    nearer t a b e = grind (arith, distance_is m h t, e)

    before : (t : ℕ) → h ≤ t → t < m → (s < h) × (distance m h s ≡ s + m - h) → distance m h t < distance m h s
    before t a b e = grind (arith, distance_is m h t, e)

    behind : (t : ℕ) → t < s → (s < h) × (distance m h s ≡ s + m - h) → distance m h t < distance m h s
    behind t b e = grind (arith, distance_is m h t, e)
