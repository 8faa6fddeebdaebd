-- Empty tables: their kinds, their values, their sizes.
use Rattle.std.proofs.Common.{◌≡◌, ℕ, zero, suc, List, [], ◌∷◌, length, map, Bool, true, false, refl, sym, ◌∙◌, ap}
use Rattle.std.proofs.lemmas.Option.{none-some}
use Rattle.std.specs.List.{AllByRecursion}
use Rattle.std.specs.FinMap as map
use Rattle.std.specs.FinSet as set
use Rattle.session_values.specs.declared.value.Value.{Value}
use Rattle.session_values.specs.declared.kind.TableKind.{TableKind}
use Rattle.session_values.specs.declared.kind.TableKind.TheVariants.{Map, Set}
use Rattle.session_values.specs.Values.{value_cmp}
use Rattle.session_values.specs.Tables.{Bindings, Members, AreValues, kind_of, size_of, start, table}

pub kinds_of_start : (shape : List TableKind) → map kind_of (start shape) ≡ shape
kinds_of_start [] = refl
kinds_of_start (Map ∷ shape) = ap (λ kinds. Map ∷ kinds) (kinds_of_start shape)
kinds_of_start (Set ∷ shape) = ap (λ kinds. Set ∷ kinds) (kinds_of_start shape)

pub start_length : (shape : List TableKind) → length (start shape) ≡ length shape
start_length [] = refl
start_length (Map ∷ shape) = ap suc (start_length shape)
start_length (Set ∷ shape) = ap suc (start_length shape)

pub values_none : AreValues (Bindings map.empty)
values_none k v h = absurd (none-some v (sym (map.get-empty value_cmp k) ∙ h))

pub members_none : AreValues (Members set.empty)
members_none k h = absurd (both_ways (set.contains set.empty k) h (set.contains-empty value_cmp k))
  where
    both_ways : (b : Bool) → b ≡ true → b ≡ false → ⊥
    both_ways b p q = cc

pub values_of_start : (shape : List TableKind) → AllByRecursion AreValues (start shape)
values_of_start [] = tt
values_of_start (Map ∷ shape) = (values_none, values_of_start shape)
values_of_start (Set ∷ shape) = (members_none, values_of_start shape)

pub start_none : (shape : List TableKind) (i : ℕ) → size_of (table (start shape) i) ≡ 0
start_none [] i = map.len-empty value_cmp Value
start_none (Map ∷ shape) zero = map.len-empty value_cmp Value
start_none (Set ∷ shape) zero = set.len-empty value_cmp
start_none (Map ∷ shape) (suc i) = start_none shape i
start_none (Set ∷ shape) (suc i) = start_none shape i
