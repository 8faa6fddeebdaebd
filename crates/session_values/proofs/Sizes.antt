-- How many keys operations leave.
use Rattle.std.proofs.Common.{◌≡◌, ℕ, ◌+◌, ◌-◌, ◌≤◌, ◌≢◌, length, inl, inr, Bool, true, false, cond, ◌&&◌, eqb, get_or, refl, ◌∙◌, ap, subst, arith}
use Rattle.std.proofs.Math.ListN.{set as put_at}
use Rattle.std.proofs.lemmas.List.{get_or-set_same, get_or-set_other, set_past}
use Rattle.std.proofs.lemmas.Bool.Decides.{nat_tests}
use Rattle.std.proofs.lemmas.Bool.{eqb-true, cases_lt}
use Rattle.std.specs.FinMap as map
use Rattle.std.specs.FinSet as set
use Rattle.session_values.specs.declared.kind.Kind.{Kind}
use Rattle.session_values.specs.declared.kind.Kind.TheVariants.{Get, Put, Swap, Del, Size, Bump, Has, Add, Mark, Drop, Count}
use Rattle.session_values.specs.declared.kind.TableKind.TheVariants.{Map}
use Rattle.session_values.specs.declared.op.Op.{Op}
use Rattle.session_values.specs.declared.value.Value.{Value}
use Rattle.session_values.specs.Kinds.{is_adding}
use Rattle.session_values.specs.Values.{value_cmp, value_cmp_total}
use Rattle.session_values.specs.Tables.{Tables, Container, Bindings, Members, empty_of, table, step, bumped, map_after, set_after, after_on, size_of}
use Rattle.session_values.proofs.Bumps.{bound_few}

abbrev pub one_if : Bool → ℕ
one_if b = cond b 1 0

insert_few : (m : map.FinMap value_cmp Value) (k v : Value) → map.len (map.insert m k v) ≤ map.len m + 1
insert_few m k v = few (map.contains_key m k) (map.len-insert value_cmp_total m k v)
  where
    few : (b : Bool) → map.len (map.insert m k v) ≡ cond b (map.len m) (map.len m + 1) → map.len (map.insert m k v) ≤ map.len m + 1
    few true e = omega arith
    few false e = omega arith

remove_few : (m : map.FinMap value_cmp Value) (k : Value) → map.len (map.remove m k) ≤ map.len m
remove_few m k = few (map.contains_key m k) (map.len-remove value_cmp_total m k)
  where
    few : (b : Bool) → map.len (map.remove m k) ≡ cond b (map.len m - 1) (map.len m) → map.len (map.remove m k) ≤ map.len m
    few true e = omega arith
    few false e = omega arith

join_few : (s : set.FinSet value_cmp) (k : Value) → set.len (set.insert s k) ≤ set.len s + 1
join_few s k = few (set.contains s k) (set.len-insert value_cmp_total s k)
  where
    few : (b : Bool) → set.len (set.insert s k) ≡ cond b (set.len s) (set.len s + 1) → set.len (set.insert s k) ≤ set.len s + 1
    few true e = omega arith
    few false e = omega arith

leave_few : (s : set.FinSet value_cmp) (k : Value) → set.len (set.remove s k) ≤ set.len s
leave_few s k = few (set.contains s k) (set.len-remove value_cmp_total s k)
  where
    few : (b : Bool) → set.len (set.remove s k) ≡ cond b (set.len s - 1) (set.len s) → set.len (set.remove s k) ≤ set.len s
    few true e = omega arith
    few false e = omega arith

map_few : (m : map.FinMap value_cmp Value) (kind : Kind) (k v : Value) → map.len (map_after m kind k v) ≤ map.len m + one_if (is_adding kind)
map_few m Get k v = omega arith
map_few m Put k v = insert_few m k v
map_few m Swap k v = insert_few m k v
map_few m Del k v = omega (arith, remove_few m k)
map_few m Size k v = omega arith
map_few m Bump k v = bound_few m k (bumped v (map.get m k))
map_few m Has k v = omega arith
map_few m Add k v = omega arith
map_few m Mark k v = omega arith
map_few m Drop k v = omega arith
map_few m Count k v = omega arith

set_few : (s : set.FinSet value_cmp) (kind : Kind) (k : Value) → set.len (set_after s kind k) ≤ set.len s + one_if (is_adding kind)
set_few s Get k = omega arith
set_few s Put k = omega arith
set_few s Swap k = omega arith
set_few s Del k = omega arith
set_few s Size k = omega arith
set_few s Bump k = omega arith
set_few s Has k = omega arith
set_few s Add k = join_few s k
set_few s Mark k = join_few s k
set_few s Drop k = omega (arith, leave_few s k)
set_few s Count k = omega arith

pub on_few : (c : Container) (op : Op) → size_of (after_on c op) ≤ size_of c + one_if (is_adding op.kind)
on_few (Bindings m) op = map_few m op.kind op.key op.value
on_few (Members s) op = set_few s op.kind op.key

pub step_few : (ts : Tables) (op : Op) (i : ℕ) → size_of (table (step ts op) i) ≤ size_of (table ts i) + one_if (is_adding op.kind && eqb op.table i)
unfolding step
step_few ts op i = by_table (eqb op.table i) refl
  where
    differs : (x y : ℕ) → eqb x y ≡ false → y ≢ x
    differs x y e = grind (arith, nat_tests)

    and_true : (b : Bool) → (b && true) ≡ b
    and_true true = refl
    and_true false = refl

    here : (j : ℕ) → size_of (get_or (put_at ts j (after_on (table ts j) op)) j (empty_of Map)) ≤ size_of (table ts j) + one_if (is_adding op.kind)
    here j = elim (cases_lt j (length ts)) [
      | inl l ↦ let e : size_of (get_or (put_at ts j (after_on (table ts j) op)) j (empty_of Map)) ≡ size_of (after_on (table ts j) op) = ap size_of (get_or-set_same ts j (after_on (table ts j) op) (empty_of Map) l) in omega (arith, e, on_few (table ts j) op)
      | inr g ↦ let e : size_of (get_or (put_at ts j (after_on (table ts j) op)) j (empty_of Map)) ≡ size_of (table ts j) = ap (λ (us : Tables). size_of (table us j)) (set_past ts j (after_on (table ts j) op) g) in omega (arith, e)
    ]

    by_table : (b : Bool) → eqb op.table i ≡ b → size_of (get_or (put_at ts op.table (after_on (table ts op.table) op)) i (empty_of Map)) ≤ size_of (table ts i) + one_if (is_adding op.kind && eqb op.table i)
    by_table true e =
        let P : ℕ → Type 0 = λ j. size_of (get_or (put_at ts op.table (after_on (table ts op.table) op)) j (empty_of Map)) ≤ size_of (table ts j) + one_if (is_adding op.kind) in
        let q : one_if (is_adding op.kind && eqb op.table i) ≡ one_if (is_adding op.kind) = ap (λ (b : Bool). one_if (is_adding op.kind && b)) e ∙ ap one_if (and_true (is_adding op.kind)) in
        omega (arith, q, subst P (eqb-true op.table i e) (here op.table))
    by_table false e = let q : size_of (get_or (put_at ts op.table (after_on (table ts op.table) op)) i (empty_of Map)) ≡ size_of (table ts i) = ap size_of (get_or-set_other ts op.table i (after_on (table ts op.table) op) (empty_of Map) (differs op.table i e)) in omega (arith, q)

pub one_most : (b : Bool) → one_if b ≤ 1
one_most true = omega arith
one_most false = omega arith
