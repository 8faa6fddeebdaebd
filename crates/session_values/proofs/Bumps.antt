-- What a bump leaves a key bound to, and a map in which a key is bound anew.
use Rattle.std.proofs.Common.{◌≡◌, ℤ, pos, negsuc, ◌+◌, ◌-◌, ◌≤◌, ◌+ℤ◌, Option, Some, None, Bool, true, false, cond, refl, sym, ◌∙◌, ap, subst, arith}
use Rattle.std.specs.Int.{w64}
use Rattle.std.specs.Int.RustNames.{FitsSigned}
use Rattle.std.specs.FinMap as map
use Rattle.std.proofs.lemmas.Int.{SFits-int_wrap}
use Rattle.std.proofs.lemmas.Option.{same_Some}
use Rattle.session_values.specs.declared.value.Value.{Value}
use Rattle.session_values.specs.declared.value.Value.TheVariants.{Nil, Num, Sym}
use Rattle.session_values.specs.Values.{value_cmp, value_eq, value_cmp_total, value_cmp-IsAntisymmetric, IsValue}
use Rattle.session_values.specs.Tables.{bound_to, bumped, sum_in_range}
use Rattle.session_values.proofs.Equal.{same_value}

-- ---- a map in which a key is bound anew
pub get-bound_to : (m : map.FinMap value_cmp Value) (k : Value) (o : Option Value) (q : Value) → map.get (bound_to m k o) q ≡ cond (value_eq q k) o (map.get m q)
get-bound_to m k (Some v) q = map.get-insert value_cmp_total m k v q
get-bound_to m k None q = map.get-remove value_cmp_total m k q

-- bound to what it was bound to, it is the same map
pub bound_to-same : (m : map.FinMap value_cmp Value) (k : Value) → bound_to m k (map.get m k) ≡ m
bound_to-same m k = map.same_map value_cmp_total value_cmp-IsAntisymmetric _ _ (λ q. get-bound_to m k (map.get m k) q ∙ go q (value_eq q k) refl)
  where
    go : (q : Value) (b : Bool) → value_eq q k ≡ b → cond b (map.get m k) (map.get m q) ≡ map.get m q
    go q true e = ap (map.get m) (sym (same_value q k e))
    go q false e = refl

pub remove_absent : (m : map.FinMap value_cmp Value) (k : Value) → map.get m k ≡ None → map.remove m k ≡ m
remove_absent m k e = ap (bound_to m k) (sym e) ∙ bound_to-same m k

pub bound_few : (m : map.FinMap value_cmp Value) (k : Value) (o : Option Value) → map.len (bound_to m k o) ≤ map.len m + 1
bound_few m k (Some v) = few (map.contains_key m k) (map.len-insert value_cmp_total m k v)
  where
    few : (b : Bool) → map.len (map.insert m k v) ≡ cond b (map.len m) (map.len m + 1) → map.len (map.insert m k v) ≤ map.len m + 1
    few true e = omega arith
    few false e = omega arith
bound_few m k None = few (map.contains_key m k) (map.len-remove value_cmp_total m k)
  where
    few : (b : Bool) → map.len (map.remove m k) ≡ cond b (map.len m - 1) (map.len m) → map.len (map.remove m k) ≤ map.len m + 1
    few true e = omega arith
    few false e = omega arith

-- ---- what it is bound to
pub bumped_none : (v : Value) (o : Option Value) → bumped v o ≡ None → o ≡ None
bumped_none Nil o e = e
bumped_none (Sym p) o e = e
bumped_none (Num d) None e = refl
bumped_none (Num d) (Some Nil) e = absurd (cc)
bumped_none (Num d) (Some (Num n)) e = absurd (cc)
bumped_none (Num d) (Some (Sym p)) e = absurd (cc)

-- where nothing is bound after it, the map is the same
pub bumped_nothing : (m : map.FinMap value_cmp Value) (k v : Value) → bumped v (map.get m k) ≡ None → m ≡ bound_to m k (bumped v (map.get m k))
bumped_nothing m k v e = sym (ap (bound_to m k) e ∙ remove_absent m k (bumped_none v (map.get m k) e))

number_value : (z : ℤ) → FitsSigned w64 z → IsValue (Num z)
number_value (pos n) f = f.sfits
number_value (negsuc n) f = f.sfits

pub sum_value : (n d : ℤ) → IsValue (Num (sum_in_range n d))
sum_value n d = number_value (sum_in_range n d) (SFits-int_wrap w64 (n +ℤ d))

pub fits_number : (z : ℤ) → IsValue (Num z) → FitsSigned w64 z
fits_number (pos n) h = record { sfits = h }
fits_number (negsuc n) h = record { sfits = h }

held : (v x : Value) → IsValue v → ◌≡◌ {A = Option Value} (Some v) (Some x) → IsValue x
held v x h e = subst IsValue (same_Some v x e) h

-- what a program can hold stays so
pub bumped_value : (v x : Value) (o : Option Value) → IsValue v → ((w : Value) → o ≡ Some w → IsValue w) → bumped v o ≡ Some x → IsValue x
bumped_value Nil x o p h e = h x e
bumped_value (Sym s) x o p h e = h x e
bumped_value (Num d) x None p h e = held (Num d) x p e
bumped_value (Num d) x (Some Nil) p h e = held Nil x tt e
bumped_value (Num d) x (Some (Num n)) p h e = held (Num (sum_in_range n d)) x (sum_value n d) e
bumped_value (Num d) x (Some (Sym s)) p h e = held (Sym s) x (h (Sym s) refl) e
