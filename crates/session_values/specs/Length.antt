-- The length of a mapped list.
use Rattle.std.specs.Prelude.{◌≡◌, suc, List, [], ◌∷◌, map, length, refl}
use mathlib.Core.Path.{ap}

pub length_map : {X Y : Type 0} (h : X → Y) (xs : List X) → length (map h xs) ≡ length xs
length_map h [] = refl
length_map h (x ∷ xs) = ap suc (length_map h xs)
