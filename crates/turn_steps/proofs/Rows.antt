-- Rows, overlays and cases.
use Rattle.std.proofs.lemmas.Option.{none-some, same_Some, slice_get-map}
use Rattle.std.proofs.Common.{◌≡◌, ◌≢◌, ℕ, zero, suc, ◌+◌, ◌<◌, ◌≤◌, ◌⊎◌, inl, inr, ⊎_elim, ◌++◌, List, [], ◌∷◌, length, map, get_or, set, Bool, true, false, cond, refl, sym, ap, ◌∙◌, arith}
use Rattle.std.proofs.lemmas.List.{get_or_past}
use Rattle.std.specs.Prelude.{Option, Some, None, option_map, slice_get}
use mathlib.Core.Logic.{dite}
use native.Mathlib.Decide.{dec_lt}
use Rattle.turn_steps.specs.Maps.{row, overlay_from, in_place_of}

pub by_bool : (b : Bool) (P : Bool → Type 0) → (b ≡ true → P true) → (b ≡ false → P false) → P b
by_bool true P p q = p refl
by_bool false P p q = q refl

pub by_nat : (n : ℕ) (P : ℕ → Type 0) → (n ≡ 0 → P 0) → ((k : ℕ) → n ≡ suc k → P (suc k)) → P n
by_nat zero P p q = p refl
by_nat (suc k) P p q = q k refl

-- a number below two is 0 or 1
pub two : (n : ℕ) (P : ℕ → Type 0) → n < 2 → (n ≡ 0 → P 0) → (n ≡ 1 → P 1) → P n
two zero P h p q = p refl
two (suc zero) P h p q = q refl
two (suc (suc n)) P h p q = absurd (omega arith)

-- a turn is a place of a word
pub few-turns : (t n : ℕ) → n ≤ 57 → t < n → t < 64
few-turns t n a b = omega arith

pub map-get : {A B : Type 0} (f : A → B) (l : List A) (i : ℕ) (a : A) → slice_get l i ≡ Some a → slice_get (map f l) i ≡ Some (f a)
map-get f l i a e = slice_get-map f l i ∙ ap (option_map f) e

-- what stands in a mapped list
pub map-read : {A B : Type 0} (f : A → B) (l : List A) (i : ℕ) (b : B) → slice_get (map f l) i ≡ Some b → (a : A) × (slice_get l i ≡ Some a) × (f a ≡ b)
map-read f [] i b e = absurd (none-some b e)
map-read f (x ∷ xs) zero b e = (x, refl, same_Some (f x) b e)
map-read f (x ∷ xs) (suc i) b e = map-read f xs i b e

module _ {A : Type 0} where
  pub row-length : (i n : ℕ) (f : ℕ → A) → length (row i n f) ≡ n
  row-length i zero f = refl
  row-length i (suc n) f = ap suc (row-length (suc i) n f)

  pub row-at : (i n : ℕ) (f : ℕ → A) (d : A) (j : ℕ) → j < n → get_or (row i n f) j d ≡ f (i + j)
  row-at i zero f d j h = absurd (omega arith)
  row-at i (suc n) f d zero h = ap f (omega arith)
  row-at i (suc n) f d (suc j) h = row-at (suc i) n f d j (omega arith) ∙ ap f (omega arith)

  pub row-past : (i n : ℕ) (f : ℕ → A) (d : A) (j : ℕ) → n ≤ j → get_or (row i n f) j d ≡ d
  row-past i zero f d j h = refl
  row-past i (suc n) f d zero h = absurd (omega arith)
  row-past i (suc n) f d (suc j) h = row-past (suc i) n f d j (omega arith)

  pub row-here : (n : ℕ) (f : ℕ → A) (d : A) (j : ℕ) → j < n → get_or (row 0 n f) j d ≡ f j
  row-here n f d j h = row-at 0 n f d j h ∙ ap f (omega arith)

  pub get-set_same : (l : List A) (i : ℕ) (a : A) → i < length l → slice_get (set l i a) i ≡ Some a
  get-set_same [] i a h = absurd (omega arith)
  get-set_same (x ∷ xs) zero a h = refl
  get-set_same (x ∷ xs) (suc i) a h = get-set_same xs i a (omega arith)

  pub get-set_other : (l : List A) (i j : ℕ) (a : A) → j ≢ i → slice_get (set l i a) j ≡ slice_get l j
  get-set_other [] i j a n = refl
  get-set_other (x ∷ xs) zero zero a n = absurd (n refl)
  get-set_other (x ∷ xs) zero (suc j) a n = refl
  get-set_other (x ∷ xs) (suc i) zero a n = refl
  get-set_other (x ∷ xs) (suc i) (suc j) a n = get-set_other xs i j a (λ e. n (ap suc e))

  pub get-within : (l : List A) (i : ℕ) → i < length l → (a : A) × (slice_get l i ≡ Some a)
  get-within [] i h = absurd (omega arith)
  get-within (x ∷ xs) zero h = (x, refl)
  get-within (x ∷ xs) (suc i) h = get-within xs i (omega arith)

  pub overlay-length : (i : ℕ) (m : ℕ → Option A) (cs : List A) → length (overlay_from i m cs) ≡ length cs
  overlay-length i m [] = refl
  overlay-length i m (c ∷ cs) = ap suc (overlay-length (suc i) m cs)

  pub overlay-some : (i : ℕ) (m : ℕ → Option A) (cs : List A) (j : ℕ) (d : A) → j < length cs → m (i + j) ≡ Some d → slice_get (overlay_from i m cs) j ≡ Some d
  overlay-some i m [] j d h e = absurd (omega arith)
  overlay-some i m (c ∷ cs) zero d h e = ap (λ (o : Option A). Some (in_place_of o c)) (ap m (omega arith) ∙ e)
  overlay-some i m (c ∷ cs) (suc j) d h e = overlay-some (suc i) m cs j d (omega arith) (ap m (omega arith) ∙ e)

  pub overlay-none : (i : ℕ) (m : ℕ → Option A) (cs : List A) (j : ℕ) → m (i + j) ≡ None → slice_get (overlay_from i m cs) j ≡ slice_get cs j
  overlay-none i m [] j e = refl
  overlay-none i m (c ∷ cs) zero e = ap (λ (o : Option A). Some (in_place_of o c)) (ap m (omega arith) ∙ e)
  overlay-none i m (c ∷ cs) (suc j) e = overlay-none (suc i) m cs j (ap m (omega arith) ∙ e)

  pub set-set : (l : List A) (i : ℕ) (a b : A) → set (set l i a) i b ≡ set l i b
  set-set [] i a b = refl
  set-set (x ∷ xs) zero a b = refl
  set-set (x ∷ xs) (suc i) a b = ap (λ (l : List A). x ∷ l) (set-set xs i a b)

  module _ (n : ℕ) (l : List A) (d : A) (test : ℕ → Bool) (x : ℕ → A) where
    pub changed-here : (u : ℕ) → u < n → test u ≡ true → get_or (row 0 n (λ t. cond (test t) (x t) (get_or l t d))) u d ≡ x u
    changed-here u h e = row-here n (λ t. cond (test t) (x t) (get_or l t d)) d u h ∙ ap (λ (b : Bool). cond b (x u) (get_or l u d)) e

    pub changed-else : (u : ℕ) → length l ≡ n → test u ≡ false → get_or (row 0 n (λ t. cond (test t) (x t) (get_or l t d))) u d ≡ get_or l u d
    changed-else u long e = dite (dec_lt u n)
        (λ h. row-here n (λ t. cond (test t) (x t) (get_or l t d)) d u h ∙ ap (λ (b : Bool). cond b (x u) (get_or l u d)) e)
        (λ h. let g : n ≤ u = omega arith in row-past 0 n (λ t. cond (test t) (x t) (get_or l t d)) d u g ∙ sym (get_or_past l u d (let k : length l ≤ u = omega arith in k)))

  pub get-snoc : (l : List A) (a b : A) (j : ℕ) → slice_get (l ++ a ∷ []) j ≡ Some b → (slice_get l j ≡ Some b) ⊎ ((j ≡ length l) × (a ≡ b))
  get-snoc [] a b zero e = inr (refl, same_Some a b e)
  get-snoc [] a b (suc j) e = absurd (none-some b e)
  get-snoc (x ∷ xs) a b zero e = inl e
  get-snoc (x ∷ xs) a b (suc j) e = ⊎_elim (λ h. inl h) (λ h. inr (ap suc h.0, h.1)) (get-snoc xs a b j e)

  pub get-last : (l : List A) (a : A) (n : ℕ) → length l ≡ n → slice_get (l ++ a ∷ []) n ≡ Some a
  get-last [] a zero e = refl
  get-last [] a (suc n) e = absurd (omega arith)
  get-last (x ∷ xs) a zero e = absurd (omega arith)
  get-last (x ∷ xs) a (suc n) e = get-last xs a n (omega arith)

  pub get-longer : (l m : List A) (i : ℕ) (a : A) → slice_get l i ≡ Some a → slice_get (l ++ m) i ≡ Some a
  get-longer [] m i a e = absurd (none-some a e)
  get-longer (x ∷ xs) m zero a e = e
  get-longer (x ∷ xs) m (suc i) a e = get-longer xs m i a e

  -- two lists that read the same at each place are one list
  pub same-lists : (l m : List A) → length l ≡ length m → ((i : ℕ) → i < length l → slice_get l i ≡ slice_get m i) → l ≡ m
  same-lists [] [] e h = refl
  same-lists [] (y ∷ ys) e h = absurd (omega arith)
  same-lists (x ∷ xs) [] e h = absurd (omega arith)
  same-lists (x ∷ xs) (y ∷ ys) e h = λ k. same_Some x y (h 0 (omega arith)) k ∷ same-lists xs ys (omega arith) (λ i q. h (suc i) (omega arith)) k
