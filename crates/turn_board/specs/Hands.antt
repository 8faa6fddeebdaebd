-- Turns with their values, as contracts see them, and the contents that they give to their turns.
use Rattle.std.specs.Prelude.{◌≡◌, ◌≢◌, ℕ, zero, suc, ◌<◌, ◌==◌, cond, map, slice_get, slice_index, List, [], ◌∷◌, Option, Some, None}

-- pairs of a turn and its value
pub record HandsView (V : Type 0) : Type 0 where
  pub pairs : List (ℕ × V)
  -- for how many pairs memory is reserved
  pub room : ℕ

-- the turn at a place
abbrev pub turn_at : {V : Type 0} → List (ℕ × V) → ℕ → ℕ
turn_at pairs i = slice_index (map (λ x. x.0) pairs) i

-- the place of a turn, where it stands in the hands
abbrev pub IsPlaceOf : {V : Type 0} → List (ℕ × V) → ℕ → Option ℕ → Type 0
IsPlaceOf pairs turn None = (i : ℕ) (x : ℕ × _) → slice_get pairs i ≡ Some x → x.0 ≢ turn
IsPlaceOf pairs turn (Some i) = (x : ℕ × _) × (slice_get pairs i ≡ Some x) × (x.0 ≡ turn)

module _ {V C : Type 0} (content : V → C) where
  -- the content of the value that stands first under a turn
  abbrev pub in_hands : List (ℕ × V) → ℕ → Option C
  in_hands [] t = None
  in_hands (x ∷ xs) t = cond (x.0 == t) (Some (content x.1)) (in_hands xs t)

  -- each turn stands once, and turn 0 not at all
  abbrev pub Once : List (ℕ × V) → Type 0
  Once [] = Unit {0}
  Once (x ∷ xs) = (0 < x.0) × (in_hands xs x.0 ≡ None) × Once xs

  -- the contents of a book and of the values in the hands
  abbrev pub put_back : V → List (ℕ × V) → ℕ → Option C
  put_back book xs zero = Some (content book)
  put_back book xs (suc t) = in_hands xs (suc t)
