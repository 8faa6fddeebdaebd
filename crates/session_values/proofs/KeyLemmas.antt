-- Keys as an index of entries compares them.
use Rattle.std.proofs.Common.{◌≡◌, ℕ, ℤ, List, [], ◌∷◌, ◌++◌, Bool, true, false, cond, ◌||◌, Some, is_some, Decides, eqb, refl, ap, subst}
use Rattle.std.proofs.lemmas.Bool.{eqb-true, eq-eqb}
use Rattle.std.proofs.lemmas.Bool.Decides.{Decides-int_eq, same_from_decides}
use Rattle.std.specs.Map.{lookup}
use Rattle.std.specs.Ordering.{int_eq}
use Rattle.indexmap.specs.IndexMap.{insert_entry}
use Rattle.session_values.specs.declared.value.Value.{Value}
use Rattle.session_values.specs.declared.value.Value.TheVariants.{Nil, Num, Sym}
use Rattle.session_values.specs.contracts.value.ValuePartialEq.TheImpl as derived
use Rattle.session_values.specs.Values.{value_eq}
use Rattle.session_values.proofs.Equal.{same_value, value_eq-self}
use Rattle.session_values.specs.Opening.{Pair, has_key}

decided : (x y : Value) → Decides (value_eq x y) (x ≡ y)
decided x y = (same_value x y, λ e. subst (λ v. value_eq x v ≡ true) e (value_eq-self x))

numbers : (x y : ℤ) → Decides (int_eq x y) (Num x ≡ Num y)
numbers x y = (λ e. ap Num ((Decides-int_eq x y).0 e), λ e. (Decides-int_eq x y).1 cc)

places : (x y : ℕ) → Decides (eqb x y) (Sym x ≡ Sym y)
places x y = (λ e. ap Sym (eqb-true x y e), λ e. eq-eqb x y cc)

-- the derived test is that of the order of values
value_eq-derived : (x y : Value) → (derived.ghosts).eq x y ≡ value_eq x y
value_eq-derived Nil Nil = refl
value_eq-derived Nil (Num y) = refl
value_eq-derived Nil (Sym y) = refl
value_eq-derived (Num x) Nil = refl
value_eq-derived (Num x) (Num y) = same_from_decides _ (value_eq (Num x) (Num y)) (numbers x y) (decided (Num x) (Num y))
value_eq-derived (Num x) (Sym y) = refl
value_eq-derived (Sym x) Nil = refl
value_eq-derived (Sym x) (Num y) = refl
value_eq-derived (Sym x) (Sym y) = same_from_decides _ (value_eq (Sym x) (Sym y)) (places x y) (decided (Sym x) (Sym y))

pub value_eq-is : (derived.ghosts).eq ≡ value_eq
value_eq-is = λ i x y. value_eq-derived x y i

-- a key is found where an entry has it
found_on : (es : List Pair) (e : Pair) (key : Value) (b : Bool) → is_some (lookup (value_eq key) es) ≡ has_key es key → is_some (cond b (Some e.1) (lookup (value_eq key) es)) ≡ (b || has_key es key)
found_on es e key true h = refl
found_on es e key false h = h

pub found_key : (es : List Pair) (key : Value) → is_some (lookup (value_eq key) es) ≡ has_key es key
found_key [] key = refl
found_key (e ∷ es) key = found_on es e key (value_eq key e.0) (found_key es key)

-- an entry with a new key goes last
inserted_on : (es : List Pair) (e : Pair) (key value : Value) (b : Bool) → (has_key es key ≡ false → insert_entry value_eq es key value ≡ es ++ (key, value) ∷ []) → (b || has_key es key) ≡ false → cond b ((e.0, value) ∷ es) (e ∷ insert_entry value_eq es key value) ≡ e ∷ (es ++ (key, value) ∷ [])
inserted_on es e key value true go h = cc
inserted_on es e key value false go h = ap (λ (l : List Pair). e ∷ l) (go h)

pub inserted_last : (es : List Pair) (key value : Value) → has_key es key ≡ false → insert_entry value_eq es key value ≡ es ++ (key, value) ∷ []
inserted_last [] key value h = refl
inserted_last (e ∷ es) key value h = inserted_on es e key value (value_eq key e.0) (inserted_last es key value) h
