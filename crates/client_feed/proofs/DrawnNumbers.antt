-- What arrives has different numbers.
use Rattle.std.proofs.Common.{◌≡◌, ◌≢◌, ℕ, zero, suc, ◌+◌, ◌<◌, ◌≤◌, ◌⊎◌, inl, inr, Bool, true, false, cond, eqb, List, [], ◌∷◌, ◌++◌, length, sum, take, get_or, refl, sym, ap, ◌∙◌, subst, arith}
use Rattle.std.specs.List.{AllByRecursion}
use Rattle.std.proofs.lemmas.List.Sums.{sum_by-cons}
use Rattle.std.proofs.lemmas.Bool.{cases_lt, eq-eqb, eqb-false}
use Rattle.client_feed.specs.Arrival.{Arrival}
use Rattle.client_feed.specs.Arrivals.{IsDrawn, Rises, count_at, of}
use Rattle.client_feed.proofs.Feeding.{of-append, rises_front, rises_up}
use Rattle.client_feed.specs.Numbers.{number_of, numbers_of}
use Rattle.request_files.specs.Picked.{AreDifferent, AreNumbersOf}
use Rattle.request_files.proofs.ClientLemmas.{place_within}

module _ (counts : List ℕ) where
  -- its client has such a request
  abbrev pub Exists : Arrival → Type 0
  Exists x = (x.client < length counts) × (x.place < count_at counts x.client)

  -- of each client some places in order, within what it has
  abbrev Within : List Arrival → Type 0
  Within xs = (p : ℕ) → (a : ℕ) × (b : ℕ) × Rises a (of p xs) b × (b ≤ count_at counts p)

  behind : (ys xs : List Arrival) → IsDrawn counts (ys ++ xs) → Within xs
  behind ys xs d p =
      let n = d p in
      let P : List ℕ → Type 0 = λ l. Rises 0 l n.0 in
      let r = rises_front 0 n.0 (of p ys) (of p xs) (subst P (of-append p ys xs) n.1) in
      (r.0, n.0, r.2, n.2)

  rest_within : (x : Arrival) (xs : List Arrival) → Within (x ∷ xs) → Within xs
  rest_within x xs w p = go (eqb x.client p) (w p)
    where
      go : (t : Bool) → (a : ℕ) × (b : ℕ) × Rises a (cond t (x.place ∷ of p xs) (of p xs)) b × (b ≤ count_at counts p) → (a : ℕ) × (b : ℕ) × Rises a (of p xs) b × (b ≤ count_at counts p)
      go true v = (suc v.0, v.1, v.2.1, v.3)
      go false v = v

  -- the first one's place, and where those of its client go on
  record Heads (x : Arrival) (xs : List Arrival) : Type 0 where
    end : ℕ
    rises : Rises (suc x.place) (of x.client xs) end
    few : end ≤ count_at counts x.client

  heads : (x : Arrival) (xs : List Arrival) → Within (x ∷ xs) → Heads x xs
  heads x xs w = go (eqb x.client x.client) (eq-eqb x.client x.client refl) (w x.client)
    where
      go : (t : Bool) → t ≡ true → (a : ℕ) × (b : ℕ) × Rises a (cond t (x.place ∷ of x.client xs) (of x.client xs)) b × (b ≤ count_at counts x.client) → Heads x xs
      go true e v = let P : ℕ → Type 0 = λ k. Rises (suc k) (of x.client xs) v.1 in record { end = v.1; rises = subst P (sym v.2.0) v.2.1; few = v.3 }
      go false e v = cc

  past_none : (cs : List ℕ) (p : ℕ) → length cs ≤ p → count_at cs p ≡ 0
  past_none [] p l = refl
  past_none (n ∷ cs) zero l = absurd (omega arith)
  past_none (n ∷ cs) (suc p) l = past_none cs p (omega (arith, l))

  exists : (x : Arrival) (xs : List Arrival) → Heads x xs → Exists x
  exists x xs h =
      let within : x.place < count_at counts x.client = omega (arith, rises_up (suc x.place) h.end (of x.client xs) h.rises, h.few) in
      (there (cases_lt x.client (length counts)) within, within)
    where
      there : (x.client < length counts) ⊎ (length counts ≤ x.client) → x.place < count_at counts x.client → x.client < length counts
      there (inl l) w = l
      there (inr g) w = absurd (omega (arith, w, past_none counts x.client g))

  all_exist : (xs : List Arrival) → Within xs → AllByRecursion Exists xs
  all_exist [] w = tt
  all_exist (x ∷ xs) w = (exists x xs (heads x xs w), all_exist xs (rest_within x xs w))

  -- ---- numbers
  below_next : (cs : List ℕ) (c e : ℕ) → c < e → c < length cs → sum (take c cs) + get_or cs c 0 ≤ sum (take e cs)
  below_next [] c e l h = absurd (omega (arith, h))
  below_next (n ∷ cs) c zero l h = absurd (omega (arith, l))
  below_next (n ∷ cs) zero (suc e) l h = omega (arith, sum_by-cons (λ (x : ℕ). x) n (take e cs))
  below_next (n ∷ cs) (suc c) (suc e) l h = omega (arith, sum_by-cons (λ (x : ℕ). x) n (take e cs), sum_by-cons (λ (x : ℕ). x) n (take c cs), below_next cs c e (omega (arith, l)) (omega (arith, h)))

  apart : (x y : Arrival) → Exists x → Exists y → (y.client ≡ x.client → x.place < y.place) → number_of counts y ≢ number_of counts x
  apart x y ex ey later = λ same. by same (cases_lt x.client y.client) (cases_lt y.client x.client)
    where
      by : number_of counts y ≡ number_of counts x → (x.client < y.client) ⊎ (y.client ≤ x.client) → (y.client < x.client) ⊎ (x.client ≤ y.client) → ⊥
      by same (inl l) q = omega (arith, same, below_next counts x.client y.client l ex.0, ex.1)
      by same (inr g) (inl l) = omega (arith, same, below_next counts y.client x.client l ey.0, ey.1)
      by same (inr g) (inr k) =
          let one : y.client ≡ x.client = omega (arith, g, k) in
          omega (arith, same, later one, ap (λ (c : ℕ). sum (take c counts)) one)

  -- those of a client that come later have larger places
  above : (p k a b : ℕ) (xs : List Arrival) → k ≤ a → Rises a (of p xs) b → AllByRecursion (λ (y : Arrival). y.client ≡ p → k ≤ y.place) xs
  above p k a b [] l h = tt
  above p k a b (y ∷ xs) l h = go (λ c m r. above p k c b xs m r) (eqb y.client p) refl h
    where
      go : ((c : ℕ) → k ≤ c → Rises c (of p xs) b → AllByRecursion (λ (z : Arrival). z.client ≡ p → k ≤ z.place) xs) → (t : Bool) → eqb y.client p ≡ t → Rises a (cond t (y.place ∷ of p xs) (of p xs)) b → (y.client ≡ p → k ≤ y.place) × AllByRecursion (λ (z : Arrival). z.client ≡ p → k ≤ z.place) xs
      go f true e r = (λ s. omega (arith, r.0, l), f (suc a) (omega (arith, l)) r.1)
      go f false e r = (λ s. absurd (eqb-false y.client p e s), f a l r)

  none_same : (x : Arrival) (xs : List Arrival) → Exists x → AllByRecursion Exists xs → AllByRecursion (λ (y : Arrival). y.client ≡ x.client → suc x.place ≤ y.place) xs → AllByRecursion (λ m. m ≢ number_of counts x) (numbers_of counts xs)
  none_same x [] e a h = tt
  none_same x (y ∷ xs) e a h = (apart x y e a.0 (λ s. h.0 s), none_same x xs e a.1 h.1)

  all_different : (xs : List Arrival) → Within xs → AreDifferent (numbers_of counts xs)
  all_different [] w = tt
  all_different (x ∷ xs) w =
      let h = heads x xs w in
      let r = rest_within x xs w in
      (none_same x xs (exists x xs h) (all_exist xs r) (above x.client (suc x.place) (suc x.place) h.end xs (omega arith) h.rises), all_different xs r)

  all_below : (xs : List Arrival) → AllByRecursion Exists xs → AllByRecursion (λ n. n < sum counts) (numbers_of counts xs)
  all_below [] a = tt
  all_below (x ∷ xs) a = (omega (arith, place_within counts x.client a.0.0, a.0.1), all_below xs a.1)

  pub arrivals_there : (ys xs : List Arrival) → IsDrawn counts (ys ++ xs) → AllByRecursion Exists xs
  arrivals_there ys xs d = all_exist xs (behind ys xs d)

  pub arrivals_numbered : (ys xs : List Arrival) → IsDrawn counts (ys ++ xs) → AreNumbersOf (sum counts) (numbers_of counts xs)
  arrivals_numbered ys xs d =
      let w = behind ys xs d in
      record { below = all_below xs (all_exist xs w); different = all_different xs w }

  -- one at its place
  pub arrival_at : (xs : List Arrival) (i : ℕ) (d : Arrival) → AllByRecursion Exists xs → i < length xs → Exists (get_or xs i d)
  arrival_at [] i d a l = absurd (omega (arith, l))
  arrival_at (x ∷ xs) zero d a l = a.0
  arrival_at (x ∷ xs) (suc i) d a l = arrival_at xs i d a.1 (omega (arith, l))

  take_all : (xs : List Arrival) (i : ℕ) → length xs ≤ i → take i xs ≡ xs
  take_all [] zero l = refl
  take_all [] (suc i) l = refl
  take_all (x ∷ xs) zero l = absurd (omega (arith, l))
  take_all (x ∷ xs) (suc i) l = ap (λ (ys : List Arrival). x ∷ ys) (take_all xs i (omega (arith, l)))

  -- all their numbers, where so many requests are all
  pub numbers_ready : (ys xs : List Arrival) (n i : ℕ) (ns : List ℕ) → IsDrawn counts (ys ++ xs) → sum counts ≡ n → length xs ≤ i → ns ≡ numbers_of counts (take i xs) → AreNumbersOf n ns
  numbers_ready ys xs n i ns d all end is =
      let P : ℕ → Type 0 = λ k. AreNumbersOf k ns in
      let Q : List ℕ → Type 0 = λ l. AreNumbersOf (sum counts) l in
      subst P all (subst Q (sym (is ∙ ap (numbers_of counts) (take_all xs i end))) (arrivals_numbered ys xs d))
