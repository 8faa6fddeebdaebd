-- Lists that are made element by element, one more.
use Rattle.std.proofs.Common.{◌≡◌, ℕ, ◌+◌, ◌<◌, List, [], ◌∷◌, ◌++◌, ◌≤◌, length, take, get_or, map, append_assoc, append-nil, refl, sym, ap, ◌∙◌}
use Rattle.std.proofs.lemmas.List.{map_more, map_push, take_all, take_more}
use Rattle.std.proofs.lemmas.List.Concat.{flat_map-append}
use Rattle.std.proofs.lemmas.List.Folds.{flat_map-map}
use Rattle.std.specs.List.{flat_map}
use Rattle.std.specs.Prelude.{Vec}

pub mapped_more : {X Y : Type 0} (f : X → Y) (xs : List X) (i : ℕ) (x : X) (old new : List Y) (y : Y) → i < length xs → x ≡ get_or xs i x → new ≡ old ++ y ∷ [] → y ≡ f x
    → old ≡ map f (take i xs) → new ≡ map f (take (i + 1) xs)
mapped_more {X} {Y} f xs i x old new y lt is pushed e so_far =
    pushed ∙ ap (λ (z : List Y). z ++ y ∷ []) so_far ∙ ap (λ (z : Y). map f (take i xs) ++ z ∷ []) (e ∙ ap f is) ∙ sym (map_more f xs i x lt)

-- where what is made is seen by a view
pub viewed_more : {X Y Z : Type 0} (view : Y → Z) (f : X → Z) (xs : List X) (i : ℕ) (x : X) (old new : List Y) (y : Y) → i < length xs → x ≡ get_or xs i x → new ≡ old ++ y ∷ [] → view y ≡ f x
    → map view old ≡ map f (take i xs) → map view new ≡ map f (take (i + 1) xs)
viewed_more {X} {Y} {Z} view f xs i x old new y lt is pushed e so_far =
    ap (λ (z : List Y). map view z) pushed ∙ map_push view old y
    ∙ ap (λ (z : List Z). z ++ view y ∷ []) so_far
    ∙ ap (λ (z : Z). map f (take i xs) ++ z ∷ []) (e ∙ ap f is) ∙ sym (map_more f xs i x lt)

-- texts behind one another
pub lines_more : {X : Type 0} (f : X → List ℕ) (xs : List X) (i : ℕ) (x : X) (front old new : List ℕ) → i < length xs → x ≡ get_or xs i x → new ≡ old ++ f x
    → old ≡ front ++ flat_map f (take i xs) → new ≡ front ++ flat_map f (take (i + 1) xs)
lines_more {X} f xs i x front old new lt is e so_far =
    e ∙ ap (λ (z : List ℕ). z ++ f x) so_far ∙ append_assoc front (flat_map f (take i xs)) (f x)
    ∙ ap (λ (z : List ℕ). front ++ (flat_map f (take i xs) ++ z)) (ap f is ∙ sym (append-nil (f (get_or xs i x))))
    ∙ ap (λ (z : List ℕ). front ++ z) (sym (flat_map-append f (take i xs) (get_or xs i x ∷ [])))
    ∙ ap (λ (z : List X). front ++ flat_map f z) (sym (take_more xs i x lt))

-- the same of vectors, each seen as its items
module _ {A X Y : Type 0} where
  pub items_more : (f : X → List Y) (xs : List X) (i : ℕ) (x : X) (old new : List (Vec Y A)) (y : Vec Y A) → i < length xs → x ≡ get_or xs i x → new ≡ old ++ y ∷ [] → y.items ≡ f x
      → map (λ (v : Vec Y A). v.items) old ≡ map f (take i xs) → map (λ (v : Vec Y A). v.items) new ≡ map f (take (i + 1) xs)
  items_more f = viewed_more (λ (v : Vec Y A). v.items) f

module _ {A X : Type 0} where
  pub vec_lines_more : (f : List X → List ℕ) (xs : List (Vec X A)) (i : ℕ) (x : Vec X A) (front old new : List ℕ) (seen : List X) → i < length xs → x ≡ get_or xs i x → seen ≡ x.items → new ≡ old ++ f seen
      → old ≡ front ++ flat_map (λ (v : Vec X A). f v.items) (take i xs) → new ≡ front ++ flat_map (λ (v : Vec X A). f v.items) (take (i + 1) xs)
  vec_lines_more f xs i x front old new seen lt is same e so_far =
      lines_more (λ (v : Vec X A). f v.items) xs i x front old new lt is (e ∙ ap (λ (z : List X). old ++ f z) same) so_far

  pub vec_lines_all : (f : List X → List ℕ) (xs : List (Vec X A)) (i : ℕ) (front new : List ℕ) → length xs ≤ i → new ≡ front ++ flat_map (λ (v : Vec X A). f v.items) (take i xs)
      → new ≡ front ++ flat_map f (map (λ (v : Vec X A). v.items) xs)
  vec_lines_all f xs i front new le e =
      e ∙ ap (λ (z : List (Vec X A)). front ++ flat_map (λ (v : Vec X A). f v.items) z) (take_all i xs le)
      ∙ ap (λ (z : List ℕ). front ++ z) (sym (flat_map-map f (λ (v : Vec X A). v.items) xs))

  module _ {V D : Type 0} (view : V → D) where
    pub vec_values_more : (f : List X → D) (xs : List (Vec X A)) (i : ℕ) (x : Vec X A) (old new : List V) (y : V) (seen : List X) → i < length xs → x ≡ get_or xs i x → seen ≡ x.items → new ≡ old ++ y ∷ [] → view y ≡ f seen
        → map view old ≡ map (λ (v : Vec X A). f v.items) (take i xs) → map view new ≡ map (λ (v : Vec X A). f v.items) (take (i + 1) xs)
    vec_values_more f xs i x old new y seen lt is same pushed e so_far =
        viewed_more view (λ (v : Vec X A). f v.items) xs i x old new y lt is pushed (e ∙ ap f same) so_far

    map_twice : (f : List X → D) (xs : List (Vec X A)) → map f (map (λ (v : Vec X A). v.items) xs) ≡ map (λ (v : Vec X A). f v.items) xs
    map_twice f [] = refl
    map_twice f (x ∷ xs) = ap (λ (z : List D). f x.items ∷ z) (map_twice f xs)

    pub vec_values_all : (f : List X → D) (xs : List (Vec X A)) (i : ℕ) (values : List V) → length xs ≤ i → map view values ≡ map (λ (v : Vec X A). f v.items) (take i xs)
        → map view values ≡ map f (map (λ (v : Vec X A). v.items) xs)
    vec_values_all f xs i values le e =
        e ∙ ap (λ (z : List (Vec X A)). map (λ (v : Vec X A). f v.items) z) (take_all i xs le) ∙ sym (map_twice f xs)
