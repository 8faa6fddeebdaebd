-- An index beside a list whose elements have different keys: what a caller of the index cites.
use Rattle.std.proofs.Common.{◌≡◌, ℕ, ◌+◌, ◌-◌, ◌<◌, Some, List, [], ◌∷◌, ◌++◌, length, get_or, take, position, sym, ◌∙◌, ap, subst, arith}
use Rattle.std.proofs.Math.ListN.{set}
use Rattle.std.specs.Prelude.{map}
use Rattle.std.specs.List.{swap_remove}
use Rattle.std.proofs.lemmas.List.{map-set, set-get_or, get_or-map, take-map, length-map, map_push}
use Rattle.session_values.specs.declared.value.Value.{Value}
use Rattle.session_values.specs.declared.value.Value.TheVariants.{Nil}
use Rattle.shard_tables.specs.Keys.{is_under, AreDifferent}
use Rattle.shard_tables.specs.Slots.{place_in, IsIndex, IsIndexBut}
use Rattle.shard_tables.proofs.Values.{value_eq-same}
use Rattle.shard_tables.proofs.Searches.{has_place}
use Rattle.shard_tables.proofs.Positions.{at_position}

module _ {X : Type 0} (key : X → Value) where
  -- the keys after an element is set to another of its key
  pub keys_set : (xs : List X) (i : ℕ) (z d : X) → i < length xs → key z ≡ key (get_or xs i d) → map key (set xs i z) ≡ map key xs
  keys_set xs i z d l e = map-set key xs i z ∙ ap (set (map key xs) i) (e ∙ sym (get_or-map key xs i d Nil l)) ∙ set-get_or (map key xs) i Nil

  -- the keys after an element is taken out and the last one takes its place
  pub keys_out : (xs : List X) (i : ℕ) (d : X) → 0 < length xs → map key (swap_remove xs i d) ≡ swap_remove (map key xs) i Nil
  keys_out xs i d l =
      let n = length xs - 1 in
      let z = get_or xs n d in
      let P : ℕ → List Value = λ m. take (m - 1) (set (map key xs) i (get_or (map key xs) (m - 1) Nil)) in
      sym (take-map key n (set xs i z)) ∙ ap (take n) (map-set key xs i z)
      ∙ ap (λ (v : Value). take n (set (map key xs) i v)) (sym (get_or-map key xs n d Nil (omega arith)))
      ∙ ap P (sym (length-map xs key))

  -- the index once an element was set to another of its key
  pub index_set : (factor bits : ℕ) (xs : List X) (slots : List ℕ) (i : ℕ) (z d : X) → i < length xs → key z ≡ key (get_or xs i d) → IsIndex factor bits (map key xs) slots → IsIndex factor bits (map key (set xs i z)) slots
  index_set factor bits xs slots i z d l e ix = let P : List Value → Type 0 = λ ks. IsIndex factor bits ks slots in subst P (sym (keys_set xs i z d l e)) ix

  -- the index once an element was pushed
  pub index_pushed : (factor bits : ℕ) (xs : List X) (slots : List ℕ) (z : X) → IsIndex factor bits (map key xs ++ key z ∷ []) slots → IsIndex factor bits (map key (xs ++ z ∷ [])) slots
  index_pushed factor bits xs slots z ix = let P : List Value → Type 0 = λ ks. IsIndex factor bits ks slots in subst P (sym (map_push key xs z)) ix

  -- the slots of an element that goes, and of the last one, hold what `rename` asks
  pub index_parted : (factor bits : ℕ) (xs : List X) (slots ys : List ℕ) (a b i n : ℕ) (z : X) → AreDifferent key xs → IsIndex factor bits (map key xs) slots → i < length xs → n + 1 ≡ length xs → z ≡ get_or xs n z
      → Some i ≡ place_in (get_or slots a 0) → place_in (get_or slots b 0) ≡ position (is_under key (key z)) xs
      → ((keys : List Value) (place : ℕ) → place < length keys → IsIndex factor bits keys slots → get_or slots a 0 ≡ place + 1 → get_or slots b 0 ≡ length keys → IsIndexBut factor bits (swap_remove keys place Nil) ys a)
      → IsIndexBut factor bits (swap_remove (map key xs) i Nil) ys a
  index_parted factor bits xs slots ys a b i n z different ix l last at_last here there renames =
      let is : get_or (map key xs) n Nil ≡ key z = get_or-map key xs n z Nil (omega arith) ∙ ap key (sym at_last) in
      let found = at_position key xs (key z) n different (omega arith) (value_eq-same (key z) (get_or (map key xs) n Nil) (sym is)) in
      renames (map key xs) i (omega (arith, l, length-map xs key)) ix (has_place (get_or slots a 0) i (sym here)) (has_place (get_or slots b 0) n (there ∙ found) ∙ last ∙ sym (length-map xs key))
