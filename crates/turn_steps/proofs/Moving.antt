-- Lists whose first elements are moved to another list.
use Rattle.std.proofs.Common.{◌≡◌, ℕ, suc, ◌<◌, ◌≤◌, List, [], ◌∷◌, ◌++◌, length, map, drop, get_or, append_assoc, append-nil, refl, sym, ap, ◌∙◌, arith}
use Rattle.std.proofs.lemmas.List.{map-append}
use Rattle.std.proofs.lemmas.Option.{none-some}
use Rattle.std.specs.Prelude.{Option, Some, None, slice_get}

module _ {A : Type 0} where
  -- the first element, and the others
  pub first_of : (xs : List A) (a : A) → 0 < length xs → a ≡ get_or xs 0 a → xs ≡ a ∷ drop 1 xs
  first_of [] a h e = absurd (omega arith)
  first_of (x ∷ xs) a h e = ap (λ (y : A). y ∷ xs) (sym e)

  pub first_at : (xs : List A) (a : A) → 0 < length xs → a ≡ get_or xs 0 a → slice_get xs 0 ≡ Some a
  first_at xs a h e = ap (λ (l : List A). slice_get l 0) (first_of xs a h e)

  pub shifted : (xs : List A) (i : ℕ) (a : A) → slice_get (drop 1 xs) i ≡ Some a → slice_get xs (suc i) ≡ Some a
  shifted [] i a e = absurd (none-some a e)
  shifted (x ∷ xs) i a e = e

-- one more was moved
pub moved_on : {A B : Type 0} (f : A → B) (xs : List A) (a : A) (front all : List B) → 0 < length xs → a ≡ get_or xs 0 a → front ++ map f xs ≡ all → (front ++ f a ∷ []) ++ map f (drop 1 xs) ≡ all
moved_on f xs a front all h e m = append_assoc front (f a ∷ []) (map f (drop 1 xs)) ∙ ap (λ l. front ++ map f l) (sym (first_of xs a h e)) ∙ m

map_map : {A B C : Type 0} (f : A → B) (g : B → C) (xs : List A) → map g (map f xs) ≡ map (λ (x : A). g (f x)) xs
map_map f g [] = refl
map_map {A} {B} {C} f g (x ∷ xs) = ap (λ (l : List C). g (f x) ∷ l) (map_map f g xs)

-- ---- one of a list is moved to the end of another
module _ {A B : Type 0} (f : A → B) where
  pub moved_start : (xs : List A) (front : List B) → front ≡ [] → front ++ map f xs ≡ map f xs
  moved_start xs front e = ap (λ (l : List B). l ++ map f xs) e

  pub moved_next : (xs ys : List A) (a : A) (front later all : List B) → 0 < length xs → a ≡ get_or xs 0 a → ys ≡ drop 1 xs → later ≡ front ++ f a ∷ [] → front ++ map f xs ≡ all → later ++ map f ys ≡ all
  moved_next xs ys a front later all h e rest is m = (λ i. is i ++ map f (rest i)) ∙ moved_on f xs a front all h e m

  pub moved_all : (xs : List A) (front all : List B) → length xs ≤ 0 → front ++ map f xs ≡ all → front ≡ all
  moved_all [] front all h m = sym (append-nil front) ∙ m
  moved_all (x ∷ xs) front all h m = absurd (omega (arith, h))

-- ---- the first of a list, which was made of something, is taken apart again
module _ {A B : Type 0} (f : A → B) where
  pub unmade_next : (xs ys : List B) (b : B) (a : A) (front later : List A) (all : List B) → 0 < length xs → b ≡ get_or xs 0 b → ys ≡ drop 1 xs → b ≡ f a → later ≡ front ++ a ∷ [] → map f front ++ xs ≡ all → map f later ++ ys ≡ all
  unmade_next xs ys b a front later all h e rest at is m =
      (λ i. map f (is i) ++ rest i)
      ∙ ap (λ (l : List B). l ++ drop 1 xs) (map-append f front (a ∷ []))
      ∙ append_assoc (map f front) (f a ∷ []) (drop 1 xs)
      ∙ ap (λ (l : List B). map f front ++ l) (ap (λ (z : B). z ∷ drop 1 xs) (sym at) ∙ sym (first_of xs b h e))
      ∙ m

  pub unmade_all : (xs : List B) (front : List A) (all : List B) → length xs ≤ 0 → map f front ++ xs ≡ all → map f front ≡ all
  unmade_all [] front all h m = sym (append-nil (map f front)) ∙ m
  unmade_all (x ∷ xs) front all h m = absurd (omega (arith, h))

-- ---- values in slots
module _ {A : Type 0} where
  pub no_none : (xs : List (Option A)) (o : Option A) (all : List A) → xs ≡ map Some all → 0 < length xs → o ≡ get_or xs 0 o → o ≡ None → ⊥
  no_none xs o [] e some at is = let none : length xs ≡ 0 = ap length e in absurd (omega (arith, none, some))
  no_none xs o (a ∷ all) e some at is = none-some a (sym is ∙ at ∙ ap (λ (l : List (Option A)). get_or l 0 o) e)

  pub rest_some : (xs ys : List (Option A)) (all : List A) → xs ≡ map Some all → ys ≡ drop 1 xs → (rest : List A) × (ys ≡ map Some rest)
  rest_some xs ys [] e is = ([], is ∙ ap (drop 1) e)
  rest_some xs ys (a ∷ all) e is = (all, is ∙ ap (drop 1) e)

  with_first : Option A → List A → List A
  with_first None l = l
  with_first (Some a) l = a ∷ l

  values_in : List (Option A) → List A
  values_in [] = []
  values_in (o ∷ os) = with_first o (values_in os)

  values_are : (xs : List A) → values_in (map Some xs) ≡ xs
  unfolding values_in with_first
  values_are [] = refl
  values_are (x ∷ xs) = ap (λ (l : List A). x ∷ l) (values_are xs)

  pub same_values : (xs ys : List A) → map Some xs ≡ map Some ys → xs ≡ ys
  same_values xs ys e = sym (values_are xs) ∙ ap values_in e ∙ values_are ys
