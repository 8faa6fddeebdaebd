-- Each point of a numbered block has a number of its own.
use Rattle.std.proofs.Common.{◌≡◌, ℕ, ◌+◌, ◌<◌, ◌≤◌, refl, sym, subst, inl, inr, ◌⊎◌, arith}
use Rattle.std.specs.Prelude.{Option}
use Rattle.std.proofs.lemmas.Bool.{cases_lt, cases_order}
use Rattle.symbolic_ops.specs.declared.symbol.Symbol.{Symbol}
use Rattle.check_meaning.specs.declared.tree.CheckedCall.{CheckedCall}
use Rattle.check_meaning.specs.Code.{Test, Code, Finish, Move, Ask, Fork, Loop, Quit, points, IsNumbered}
use Rattle.may_use_analysis.specs.Trails.{Symbols}
use Rattle.may_use_analysis.specs.Flow.{Flow, Head, FlowPoint}
use Rattle.may_use_analysis.proofs.Sets.{Same}

abbrev Between : ℕ → ℕ → ℕ → Type 0
Between low i high = (low ≤ i) × (i < high)

pub point_range : (code : Code) (i low : ℕ) (A : Symbols) (s : Symbol) → IsNumbered code low → FlowPoint code i A s → Between low i (low + points code)
point_range Finish i low A s n m = absurd m
point_range (Move x e rest) i low A s n m = point_range rest i low A s n m
point_range (Ask at p x c rest) i low A s n (inl m) = let a = n.0 in let b = m.0 in (omega arith, omega arith)
point_range (Ask at p x c rest) i low A s n (inr m) = let r = point_range rest i (low + 1) A s n.1 m in (omega arith, omega arith)
point_range (Fork at p q test a b rest) i low A s n (inl m) = let k = n.0 in let h = m.0 in (omega arith, omega arith)
point_range (Fork at p q test a b rest) i low A s n (inr (inl m)) = let k = n.2 in let h = m.0 in (omega arith, omega arith)
point_range (Fork at p q test a b rest) i low A s n (inr (inr (inl m))) =
    let r = point_range a i (low + 1) (Flow rest A) s n.1 m in (omega arith, omega arith)
point_range (Fork at p q test a b rest) i low A s n (inr (inr (inr (inl m)))) =
    let r = point_range b i (low + 2 + points a) (Flow rest A) s n.3 m in (omega arith, omega arith)
point_range (Fork at p q test a b rest) i low A s n (inr (inr (inr (inr m)))) =
    let r = point_range rest i (low + 2 + points a + points b) A s n.4 m in (omega arith, omega arith)
point_range (Loop at p n x body rest) i low A s k (inl m) = let h = k.1 in let g = m.0 in (omega arith, omega arith)
point_range (Loop at p n x body rest) i low A s k (inr (inl m)) =
    let r = point_range body i low (Head x body (Flow rest A)) s k.0 m in (omega arith, omega arith)
point_range (Loop at p n x body rest) i low A s k (inr (inr m)) =
    let r = point_range rest i (low + points body + 1) A s k.2 m in (omega arith, omega arith)
point_range (Quit es rest) i low A s n m = point_range rest i low A s n m

left_of : {A B : Type 0} → (B → ⊥) → A ⊎ B → A
left_of none (inl a) = a
left_of none (inr b) = absurd (none b)

right_of : {A B : Type 0} → (A → ⊥) → A ⊎ B → B
right_of none (inl a) = absurd (none a)
right_of none (inr b) = b

-- ---- the part of a block that has the number

module _ (at p : ℕ) (x : Option ℕ) (c : CheckedCall) (rest : Code) (low i : ℕ) (A : Symbols) (n : IsNumbered (Ask at p x c rest) low) where
  ask_here : i ≡ p → Same (FlowPoint (Ask at p x c rest) i A) (Flow rest A)
  ask_here e s =
      (λ m. (left_of (λ k. let r = point_range rest i (low + 1) A s n.1 k in let f = n.0 in absurd (omega arith)) m).1, λ m. inl (e, m))

  ask_past : low + 1 ≤ i → Same (FlowPoint (Ask at p x c rest) i A) (FlowPoint rest i A)
  ask_past h s = (λ m. right_of (λ k. let e = k.0 in let f = n.0 in absurd (omega arith)) m, λ m. inr m)

module _ (at p q : ℕ) (test : Test) (a b rest : Code) (low i : ℕ) (A : Symbols) (n : IsNumbered (Fork at p q test a b rest) low) where
  abbrev R : Symbols
  R = Flow rest A

  not_first : (s : Symbol) → low + 1 ≤ i → (i ≡ p) × Flow a R s → ⊥
  not_first s h m = let e = m.0 in let f = n.0 in absurd (omega arith)

  not_in_a : (s : Symbol) → (i < low + 1) ⊎ (low + 1 + points a ≤ i) → FlowPoint a i R s → ⊥
  not_in_a s (inl h) m = let r = point_range a i (low + 1) R s n.1 m in absurd (omega arith)
  not_in_a s (inr h) m = let r = point_range a i (low + 1) R s n.1 m in absurd (omega arith)

  not_in_b : (s : Symbol) → (i < low + 2 + points a) ⊎ (low + 2 + points a + points b ≤ i) → FlowPoint b i R s → ⊥
  not_in_b s (inl h) m = let r = point_range b i (low + 2 + points a) R s n.3 m in absurd (omega arith)
  not_in_b s (inr h) m = let r = point_range b i (low + 2 + points a) R s n.3 m in absurd (omega arith)

  not_behind : (s : Symbol) → i < low + 2 + points a + points b → FlowPoint rest i A s → ⊥
  not_behind s h m = let r = point_range rest i (low + 2 + points a + points b) A s n.4 m in absurd (omega arith)

  fork_first : i ≡ p → Same (FlowPoint (Fork at p q test a b rest) i A) (Flow a R)
  fork_first e s =
      let f = n.0 in let g = n.2 in
      (λ m. (left_of (λ k. past k) m).1, λ m. inl (e, m))
    where
      past : ((i ≡ q) × Flow b R s) ⊎ (FlowPoint a i R s ⊎ (FlowPoint b i R s ⊎ FlowPoint rest i A s)) → ⊥
      past (inl m) = let h = m.0 in let f = n.0 in let g = n.2 in absurd (omega arith)
      past (inr (inl m)) = let f = n.0 in not_in_a s (inl (omega arith)) m
      past (inr (inr (inl m))) = let f = n.0 in not_in_b s (inl (omega arith)) m
      past (inr (inr (inr m))) = let f = n.0 in not_behind s (omega arith) m

  fork_second : i ≡ q → Same (FlowPoint (Fork at p q test a b rest) i A) (Flow b R)
  fork_second e s = (λ m. (left_of (λ k. past k) (right_of (λ k. not_first s (let g = n.2 in omega arith) k) m)).1, λ m. inr (inl (e, m)))
    where
      past : FlowPoint a i R s ⊎ (FlowPoint b i R s ⊎ FlowPoint rest i A s) → ⊥
      past (inl m) = let g = n.2 in not_in_a s (inr (omega arith)) m
      past (inr (inl m)) = let g = n.2 in not_in_b s (inl (omega arith)) m
      past (inr (inr m)) = let g = n.2 in not_behind s (omega arith) m

  fork_in_a : low + 1 ≤ i → i < low + 1 + points a → Same (FlowPoint (Fork at p q test a b rest) i A) (FlowPoint a i R)
  fork_in_a ge lt s = (λ m. left_of (λ k. past k) (right_of (λ k. not_second k) (right_of (λ k. not_first s ge k) m)), λ m. inr (inr (inl m)))
    where
      not_second : (i ≡ q) × Flow b R s → ⊥
      not_second m = let e = m.0 in let g = n.2 in absurd (omega arith)

      past : FlowPoint b i R s ⊎ FlowPoint rest i A s → ⊥
      past (inl m) = not_in_b s (inl (omega arith)) m
      past (inr m) = not_behind s (omega arith) m

  not_second_past : (s : Symbol) → low + 2 + points a ≤ i → (i ≡ q) × Flow b R s → ⊥
  not_second_past s h m = let e = m.0 in let g = n.2 in absurd (omega arith)

  fork_in_b : low + 2 + points a ≤ i → i < low + 2 + points a + points b → Same (FlowPoint (Fork at p q test a b rest) i A) (FlowPoint b i R)
  fork_in_b ge lt s =
      (λ m. left_of (λ k. not_behind s lt k) (right_of (λ k. not_in_a s (inr (omega arith)) k) (right_of (λ k. not_second_past s ge k) (right_of (λ k. not_first s (omega arith) k) m))), λ m. inr (inr (inr (inl m))))

  fork_past : low + 2 + points a + points b ≤ i → Same (FlowPoint (Fork at p q test a b rest) i A) (FlowPoint rest i A)
  fork_past ge s =
      (λ m. right_of (λ k. not_in_b s (inr ge) k) (right_of (λ k. not_in_a s (inr (omega arith)) k) (right_of (λ k. not_second_past s (omega arith) k) (right_of (λ k. not_first s (omega arith) k) m))), λ m. inr (inr (inr (inr m))))

module _ (at p n x : ℕ) (body rest : Code) (low i : ℕ) (A : Symbols) (k : IsNumbered (Loop at p n x body rest) low) where
  abbrev H : Symbols
  H = Head x body (Flow rest A)

  loop_here : i ≡ p → Same (FlowPoint (Loop at p n x body rest) i A) (Flow rest A)
  loop_here e s = (λ m. (left_of (λ j. past j) m).1, λ m. inl (e, m))
    where
      past : FlowPoint body i H s ⊎ FlowPoint rest i A s → ⊥
      past (inl m) = let r = point_range body i low H s k.0 m in let f = k.1 in absurd (omega arith)
      past (inr m) = let r = point_range rest i (low + points body + 1) A s k.2 m in let f = k.1 in absurd (omega arith)

  loop_in : i < low + points body → Same (FlowPoint (Loop at p n x body rest) i A) (FlowPoint body i H)
  loop_in lt s =
      (λ m. left_of (λ j. let r = point_range rest i (low + points body + 1) A s k.2 j in absurd (omega arith)) (right_of (λ j. let e = j.0 in let f = k.1 in absurd (omega arith)) m), λ m. inr (inl m))

  loop_past : low + points body + 1 ≤ i → Same (FlowPoint (Loop at p n x body rest) i A) (FlowPoint rest i A)
  loop_past ge s =
      (λ m. right_of (λ j. let r = point_range body i low H s k.0 j in absurd (omega arith)) (right_of (λ j. let e = j.0 in let f = k.1 in absurd (omega arith)) m), λ m. inr (inr m))

-- ---- facts on the set of each point

module _ (P : ℕ → Symbols → Type 0) where
  -- it holds of the set of each point in the code
  abbrev pub Fits : Code → Symbols → Type 0
  Fits Finish A = Unit {0}
  Fits (Move x e rest) A = Fits rest A
  Fits (Ask at p x c rest) A = P p (Flow rest A) × Fits rest A
  Fits (Fork at p q test a b rest) A =
      P p (Flow a (Flow rest A)) × P q (Flow b (Flow rest A)) × Fits a (Flow rest A) × Fits b (Flow rest A) × Fits rest A
  Fits (Loop at p n x body rest) A = P p (Flow rest A) × Fits body (Head x body (Flow rest A)) × Fits rest A
  Fits (Quit es rest) A = Fits rest A

  -- it looks at the symbols of a set alone
  abbrev pub Respects : Type 1
  Respects = (i : ℕ) (A B : Symbols) → Same A B → P i A → P i B

  module _ (respects : Respects) where
    back_to : (i : ℕ) (A B : Symbols) → Same A B → P i B → P i A
    back_to i A B same h = respects i B A (λ s. ((same s).1, (same s).0)) h

    -- what holds of the set at each number holds of the set of each point
    pub fits_numbered : (code : Code) (low : ℕ) (A : Symbols) → IsNumbered code low → ((i : ℕ) → low ≤ i → i < low + points code → P i (FlowPoint code i A)) → Fits code A
    fits_numbered Finish low A n h = tt
    fits_numbered (Move x e rest) low A n h = fits_numbered rest low A n h
    fits_numbered (Ask at p x c rest) low A n h =
        let e = n.0 in (
          respects p _ _ (ask_here at p x c rest low p A n refl) (h p (omega arith) (omega arith)),
          fits_numbered rest (low + 1) A n.1 (λ i ge lt. respects i _ _ (ask_past at p x c rest low i A n ge) (h i (omega arith) (omega arith))),
        )
    fits_numbered (Fork at p q test a b rest) low A n h =
        let e = n.0 in
        let f = n.2 in (
          respects p _ _ (fork_first at p q test a b rest low p A n refl) (h p (omega arith) (omega arith)),
          respects q _ _ (fork_second at p q test a b rest low q A n refl) (h q (omega arith) (omega arith)),
          fits_numbered a (low + 1) (Flow rest A) n.1 (λ i ge lt. respects i _ _ (fork_in_a at p q test a b rest low i A n ge lt) (h i (omega arith) (omega arith))),
          fits_numbered b (low + 2 + points a) (Flow rest A) n.3 (λ i ge lt. respects i _ _ (fork_in_b at p q test a b rest low i A n ge lt) (h i (omega arith) (omega arith))),
          fits_numbered rest (low + 2 + points a + points b) A n.4 (λ i ge lt. respects i _ _ (fork_past at p q test a b rest low i A n ge) (h i (omega arith) (omega arith))),
        )
    fits_numbered (Loop at p n x body rest) low A k h =
        let e = k.1 in (
          respects p _ _ (loop_here at p n x body rest low p A k refl) (h p (omega arith) (omega arith)),
          fits_numbered body low (Head x body (Flow rest A)) k.0 (λ i ge lt. respects i _ _ (loop_in at p n x body rest low i A k lt) (h i (omega arith) (omega arith))),
          fits_numbered rest (low + points body + 1) A k.2 (λ i ge lt. respects i _ _ (loop_past at p n x body rest low i A k ge) (h i (omega arith) (omega arith))),
        )
    fits_numbered (Quit es rest) low A n h = fits_numbered rest low A n h

    -- and back
    pub fits_point : (code : Code) (low : ℕ) (A : Symbols) → IsNumbered code low → Fits code A → (i : ℕ) → low ≤ i → i < low + points code → P i (FlowPoint code i A)
    fits_point Finish low A n f i ge lt = absurd (omega arith)
    fits_point (Move x e rest) low A n f i ge lt = fits_point rest low A n f i ge lt
    fits_point (Ask at p x c rest) low A n f i ge lt = go (cases_lt i (low + 1)) (fits_point rest (low + 1) A n.1 f.1 i)
      where
        go : (i < low + 1) ⊎ (low + 1 ≤ i) → (low + 1 ≤ i → i < low + 1 + points rest → P i (FlowPoint rest i A)) → P i (FlowPoint (Ask at p x c rest) i A)
        go (inl h) k =
            let e : i ≡ p = let g = n.0 in omega arith in
            back_to i _ _ (ask_here at p x c rest low i A n e) (subst (λ (j : ℕ). P j (Flow rest A)) (sym e) f.0)
        go (inr h) k = back_to i _ _ (ask_past at p x c rest low i A n h) (k h (omega arith))
    fits_point (Fork at p q test a b rest) low A n f i ge lt =
        go (cases_order i p) (cases_order i q) (cases_lt i (low + 2 + points a + points b)) (fits_point a (low + 1) (Flow rest A) n.1 f.2 i) (fits_point b (low + 2 + points a) (Flow rest A) n.3 f.3 i) (fits_point rest (low + 2 + points a + points b) A n.4 f.4 i)
      where
        go : (i ≡ p) ⊎ ((i < p) ⊎ (p < i)) → (i ≡ q) ⊎ ((i < q) ⊎ (q < i)) → (i < low + 2 + points a + points b) ⊎ (low + 2 + points a + points b ≤ i)
            → (low + 1 ≤ i → i < low + 1 + points a → P i (FlowPoint a i (Flow rest A))) → (low + 2 + points a ≤ i → i < low + 2 + points a + points b → P i (FlowPoint b i (Flow rest A))) → (low + 2 + points a + points b ≤ i → i < low + 2 + points a + points b + points rest → P i (FlowPoint rest i A))
            → P i (FlowPoint (Fork at p q test a b rest) i A)
        go (inl e) v w ka kb kr = back_to i _ _ (fork_first at p q test a b rest low i A n e) (subst (λ (j : ℕ). P j (Flow a (Flow rest A))) (sym e) f.0)
        go (inr (inl h)) v w ka kb kr = let g = n.0 in absurd (omega arith)
        go (inr (inr h)) (inl e) w ka kb kr = back_to i _ _ (fork_second at p q test a b rest low i A n e) (subst (λ (j : ℕ). P j (Flow b (Flow rest A))) (sym e) f.1)
        go (inr (inr h)) (inr (inl v)) w ka kb kr =
            let g = n.0 in
            let j = n.2 in
            let from : low + 1 ≤ i = omega arith in
            let upto : i < low + 1 + points a = omega arith in
            back_to i _ _ (fork_in_a at p q test a b rest low i A n from upto) (ka from upto)
        go (inr (inr h)) (inr (inr v)) (inl w) ka kb kr =
            let g = n.0 in
            let j = n.2 in
            let from : low + 2 + points a ≤ i = omega arith in
            back_to i _ _ (fork_in_b at p q test a b rest low i A n from w) (kb from w)
        go (inr (inr h)) (inr (inr v)) (inr w) ka kb kr = back_to i _ _ (fork_past at p q test a b rest low i A n w) (kr w (omega arith))
    fits_point (Loop at p n x body rest) low A k f i ge lt = go (cases_order i p) (fits_point body low (Head x body (Flow rest A)) k.0 f.1 i) (fits_point rest (low + points body + 1) A k.2 f.2 i)
      where
        go : (i ≡ p) ⊎ ((i < p) ⊎ (p < i)) → (low ≤ i → i < low + points body → P i (FlowPoint body i (Head x body (Flow rest A)))) → (low + points body + 1 ≤ i → i < low + points body + 1 + points rest → P i (FlowPoint rest i A)) → P i (FlowPoint (Loop at p n x body rest) i A)
        go (inl e) kb kr = back_to i _ _ (loop_here at p n x body rest low i A k e) (subst (λ (j : ℕ). P j (Flow rest A)) (sym e) f.0)
        go (inr (inl h)) kb kr =
            let g = k.1 in
            let upto : i < low + points body = omega arith in
            back_to i _ _ (loop_in at p n x body rest low i A k upto) (kb ge upto)
        go (inr (inr h)) kb kr =
            let g = k.1 in
            let from : low + points body + 1 ≤ i = omega arith in
            back_to i _ _ (loop_past at p n x body rest low i A k from) (kr from (omega arith))
    fits_point (Quit es rest) low A n f i ge lt = fits_point rest low A n f i ge lt
