-- Finite maps from turns to contents, and what the giving back of a book makes of the contents
-- and notes.
use Rattle.std.specs.Prelude.{◌≡◌, ℕ, zero, suc, List, [], ◌∷◌, ◌++◌, ◌==◌, cond, Option, Some, None, slice_get}
use Rattle.std.specs.Int.{bit_at}

module _ {C : Type 0} where
  -- a map agrees with the contents
  abbrev pub FitsTurns : List C → (ℕ → Option C) → Type 0
  FitsTurns contents m = (t : ℕ) (c : C) → m t ≡ Some c → slice_get contents t ≡ Some c

  -- two maps have the same turns
  abbrev pub SameTurns : (ℕ → Option C) → (ℕ → Option C) → Type 0
  SameTurns old new = ((t : ℕ) → old t ≡ None → new t ≡ None)
      × ((t : ℕ) → new t ≡ None → old t ≡ None)

  abbrev pub in_place_of : Option C → C → C
  in_place_of None c = c
  in_place_of (Some d) c = d

  abbrev pub overlay_from : ℕ → (ℕ → Option C) → List C → List C
  overlay_from i m [] = []
  overlay_from i m (c ∷ cs) = in_place_of (m i) c ∷ overlay_from (suc i) m cs

  -- the contents, with those of the map in their places
  abbrev pub overlay : (ℕ → Option C) → List C → List C
  overlay = overlay_from 0

-- f i, f (i + 1) and so on, n of them
abbrev pub row : {A : Type 0} → ℕ → ℕ → (ℕ → A) → List A
row i zero f = []
row i (suc n) f = f i ∷ row (suc i) n f

-- the turns below n whose bits are set, in rising order
abbrev pub bits_of : ℕ → ℕ → List ℕ
bits_of set zero = []
bits_of set (suc n) = cond (bit_at set n == 1) (bits_of set n ++ n ∷ []) (bits_of set n)
