-- A room into which the images of a list are put, one after another.
use Rattle.std.proofs.Common.{◌≡◌, ℕ, zero, suc, ◌<◌, ◌≤◌, min, List, [], ◌∷◌, length, take, map, get_or, set, refl, ap, sym, ◌∙◌, arith}
use Rattle.foresight_c.specs.Fronts.{put_at_front}

no_room : {Y : Type 0} (ys : List Y) → put_at_front [] ys ≡ []
no_room [] = refl
no_room (y ∷ ys) = refl

nothing : {Y : Type 0} (room : List Y) → put_at_front room [] ≡ room
nothing [] = refl
nothing (y ∷ room) = refl

module _ {X Y : Type 0} (f : X → Y) where
  -- the next one is put at its place
  pub put_one : (room : List Y) (xs : List X) (i : ℕ) (d : X) → i < length room → i < length xs → set (put_at_front room (map f (take i xs))) i (f (get_or xs i d)) ≡ put_at_front room (map f (take (suc i) xs))
  put_one [] xs i d r l = let no : ⊥ = omega (arith, r) in absurd no
  put_one (y ∷ room) [] i d r l = let no : ⊥ = omega (arith, l) in absurd no
  put_one (y ∷ room) (x ∷ xs) zero d r l = ap (λ (ys : List Y). f x ∷ ys) (sym (nothing room))
  put_one (y ∷ room) (x ∷ xs) (suc i) d r l =
      let r2 : i < length room = omega (arith, r) in
      let l2 : i < length xs = omega (arith, l) in
      ap (λ (ys : List Y). f x ∷ ys) (put_one room xs i d r2 l2)

  -- once there is no place or no element left, all are put
  pub put_all : (room : List Y) (xs : List X) (i : ℕ) → min (length room) (length xs) ≤ i → put_at_front room (map f (take i xs)) ≡ put_at_front room (map f xs)
  put_all [] xs i l = no_room (map f (take i xs)) ∙ sym (no_room (map f xs))
  put_all (y ∷ room) [] zero l = refl
  put_all (y ∷ room) [] (suc i) l = refl
  put_all (y ∷ room) (x ∷ xs) zero l = let no : ⊥ = omega (arith, l) in absurd no
  put_all (y ∷ room) (x ∷ xs) (suc i) l =
      let l2 : min (length room) (length xs) ≤ i = omega (arith, l) in
      ap (λ (ys : List Y). f x ∷ ys) (put_all room xs i l2)
