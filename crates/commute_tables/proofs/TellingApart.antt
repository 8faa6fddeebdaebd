-- The states that tell apart the orders of operations that don't commute.
use Rattle.std.proofs.Common.{◌≡◌, ℕ, zero, suc, ◌<◌, List, [], ◌∷◌, length, Some, Bool, true, false, not, ◌&&◌, ◌||◌, eqb, refl, sym, ◌∙◌, ap, subst, arith}
use Rattle.std.specs.Prelude.{slice_get}
use Rattle.std.proofs.Math.ListN.{set as put_at, replicate}
use Rattle.std.proofs.lemmas.List.{get_or-set_same, length-set, map-set}
use Rattle.std.proofs.lemmas.Bool.{or_parts, not-false, and_from, true≢false, eqb-true, both_ways}
use Rattle.std.proofs.lemmas.Option.{same_Some, slice_get_within}
use Rattle.session_values.specs.declared.kind.Kind.{Kind}
use Rattle.session_values.specs.declared.kind.Kind.TheVariants.{Get, Put, Swap, Del, Size, Bump, Has, Add, Mark, Drop, Count}
use Rattle.session_values.specs.declared.kind.TableKind.{TableKind}
use Rattle.session_values.specs.declared.kind.TableKind.TheVariants.{Map}
use Rattle.session_values.specs.declared.op.Op.{Op}
use Rattle.session_values.specs.declared.value.Value.{Value}
use Rattle.session_values.specs.Values.{value_eq, IsValue}
use Rattle.session_values.specs.Kinds.{home, is_keyed, is_plain, kind_place, is_on_map, is_read}
use Rattle.session_values.specs.Tables.{Tables, Container, empty_of, start, table, reply_on, after_on, Fits}
use Rattle.session_values.specs.Commuting.{Commute}
use Rattle.session_values.specs.Op.{IsHeld}
use Rattle.commute_tables.specs.Relation.{same_bool, commutes, is_put, is_bump, is_number, is_zero, add_up, sums}
use Rattle.session_values.specs.Tables.{kind_of}
use Rattle.session_values.proofs.Starts.{kinds_of_start, start_length, values_of_start}
use Rattle.commute_tables.specs.ToldApart.{ToldApart, Differ, CommuteAt}
use Rattle.std.specs.Bool.{MatchBool, Decides}
use Rattle.commute_tables.proofs.Commutes.{commutes-Commute}
use Rattle.commute_tables.proofs.OneTable.{SwapsOn, SwapsAt, swaps_to, table_after, twice_after}
use Rattle.commute_tables.proofs.TellingApartPairs.{op, Tells, turn, sees, binds, see_bind, see_del, put_put, bind_del, bind_size, del_size, bump_get, bump_put, bump_swap, bump_del, bump_size, joins, has_join, has_drop, add_join, join_drop, join_count, drop_count}
use Rattle.session_values.proofs.Equal.{same_value, value_eq-self}
use Rattle.session_values.proofs.Puts.{values_put}

-- ---- every pair that doesn't commute
-- what the test says where it says that they don't commute
record Against (x y : Kind) (k l v w : Value) : Type 0 where
  homes : same_bool (is_on_map x) (is_on_map y) ≡ true
  reads : (is_read x && is_read y) ≡ false
  keys : (is_keyed x && is_keyed y) ≡ true → k ≡ l
  change : (is_plain x && eqb (kind_place x) (kind_place y) && value_eq k l && (not (eqb (kind_place x) 1) || value_eq v w)) ≡ false
  sums : add_up x (is_number v) (is_zero v) y (is_number w) (is_zero w) ≡ false
  held : IsValue v × IsValue w

and_true : (b : Bool) → b ≡ true → (b && true) ≡ false → ⊥
and_true b p q = both_ways b (sym (and_of b) ∙ q) p
  where
    and_of : (b : Bool) → (b && true) ≡ b
    and_of true = refl
    and_of false = refl

same_plain : (k l : Value) → k ≡ l → (value_eq k l && true) ≡ false → ⊥
same_plain k l e h = and_true (value_eq k l) (ap (value_eq k) (sym e) ∙ value_eq-self k) h

pub and_right : (b c : Bool) → b ≡ true → (b && c) ≡ false → c ≡ false
and_right true c p q = q
and_right false c p q = cc

-- what the rule on bumps says where it says no
first_number : (x y : Kind) (n z m u : Bool) → is_bump x ≡ true → add_up x n z y m u ≡ false → n ≡ true
first_number x y n z m u b h = not-false n (and_right (is_bump x) (not n) b (or_parts _ _ (or_parts _ _ (or_parts _ _ (or_parts _ _ h).0).0).0).1)

second_number : (x y : Kind) (n z m u : Bool) → is_bump y ≡ true → add_up x n z y m u ≡ false → m ≡ true
second_number x y n z m u b h = not-false m (and_right (is_bump y) (not m) b (or_parts _ _ (or_parts _ _ (or_parts _ _ h).0).0).1)

put_second : (x y : Kind) (n z m u : Bool) → is_bump x ≡ true → is_put y ≡ true → add_up x n z y m u ≡ false → (z ≡ false) × (m ≡ true)
put_second x y n z m u b p h =
    let q : (z ≡ false) × (not m ≡ false) = or_parts z (not m) (and_right (is_bump x && is_put y) (z || not m) (and_from _ _ b p) (or_parts _ _ (or_parts _ _ h).0).1) in
    (q.0, not-false m q.1)

put_first : (x y : Kind) (n z m u : Bool) → is_put x ≡ true → is_bump y ≡ true → add_up x n z y m u ≡ false → (n ≡ true) × (u ≡ false)
put_first x y n z m u p b h =
    let q : (not n ≡ false) × (u ≡ false) = or_parts (not n) u (and_right (is_put x && is_bump y) (not n || u) (and_from _ _ p b) (or_parts _ _ h).1) in
    (not-false n q.0, q.1)

-- at one key
at_key : (x y : Kind) (i j : ℕ) (k l v w : Value) → k ≡ l → Tells (op x i k v) (op y j k w) → Tells (op x i k v) (op y j l w)
at_key x y i j k l v w e t = let P : Value → Type 0 = λ q. Tells (op x i k v) (op y j q w) in subst P e t

tells : (x y : Kind) (i j : ℕ) (k l v w : Value) → Against x y k l v w → Tells (op x i k v) (op y j l w)
unfolding sees binds joins
tells Get Get i j k l v w h = absurd (true≢false h.reads)
tells Get Put i j k l v w h = at_key Get Put i j k l v w (h.keys refl) (see_bind Get Put i j k v w refl refl)
tells Get Swap i j k l v w h = at_key Get Swap i j k l v w (h.keys refl) (see_bind Get Swap i j k v w refl refl)
tells Get Del i j k l v w h = at_key Get Del i j k l v w (h.keys refl) (see_del Get i j k v w refl)
tells Get Size i j k l v w h = absurd (let e : true ≡ false = h.reads in cc)
tells Get Bump i j k l v w h = turn _ _ refl (at_key Bump Get j i l k w v (sym (h.keys refl)) (bump_get j i l w v (second_number Get Bump (is_number v) (is_zero v) (is_number w) (is_zero w) refl h.sums)))
tells Put Get i j k l v w h = turn _ _ refl (at_key Get Put j i l k w v (sym (h.keys refl)) (see_bind Get Put j i l w v refl refl))
tells Put Put i j k l v w h = at_key Put Put i j k l v w (h.keys refl) (put_put i j k v w (and_right (value_eq k l) (value_eq v w) (ap (value_eq k) (sym (h.keys refl)) ∙ value_eq-self k) h.change))
tells Put Swap i j k l v w h = turn _ _ refl (at_key Swap Put j i l k w v (sym (h.keys refl)) (see_bind Swap Put j i l w v refl refl))
tells Put Del i j k l v w h = at_key Put Del i j k l v w (h.keys refl) (bind_del Put i j k v w refl)
tells Put Size i j k l v w h = bind_size Put i j k l v w refl
tells Put Bump i j k l v w h =
    let p : (is_number v ≡ true) × (is_zero w ≡ false) = put_first Put Bump (is_number v) (is_zero v) (is_number w) (is_zero w) refl refl h.sums in
    turn _ _ refl (at_key Bump Put j i l k w v (sym (h.keys refl)) (bump_put j i l w v h.held.1 (second_number Put Bump (is_number v) (is_zero v) (is_number w) (is_zero w) refl h.sums) p.1 p.0))
tells Swap Get i j k l v w h = turn _ _ refl (at_key Get Swap j i l k w v (sym (h.keys refl)) (see_bind Get Swap j i l w v refl refl))
tells Swap Put i j k l v w h = at_key Swap Put i j k l v w (h.keys refl) (see_bind Swap Put i j k v w refl refl)
tells Swap Swap i j k l v w h = at_key Swap Swap i j k l v w (h.keys refl) (see_bind Swap Swap i j k v w refl refl)
tells Swap Del i j k l v w h = at_key Swap Del i j k l v w (h.keys refl) (see_del Swap i j k v w refl)
tells Swap Size i j k l v w h = bind_size Swap i j k l v w refl
tells Swap Bump i j k l v w h = turn _ _ refl (at_key Bump Swap j i l k w v (sym (h.keys refl)) (bump_swap j i l w v (second_number Swap Bump (is_number v) (is_zero v) (is_number w) (is_zero w) refl h.sums)))
tells Del Get i j k l v w h = turn _ _ refl (at_key Get Del j i l k w v (sym (h.keys refl)) (see_del Get j i l w v refl))
tells Del Put i j k l v w h = turn _ _ refl (at_key Put Del j i l k w v (sym (h.keys refl)) (bind_del Put j i l w v refl))
tells Del Swap i j k l v w h = turn _ _ refl (at_key Swap Del j i l k w v (sym (h.keys refl)) (see_del Swap j i l w v refl))
tells Del Del i j k l v w h = absurd (same_plain k l (h.keys refl) h.change)
tells Del Size i j k l v w h = del_size i j k l v w
tells Del Bump i j k l v w h = turn _ _ refl (at_key Bump Del j i l k w v (sym (h.keys refl)) (bump_del j i l w v (second_number Del Bump (is_number v) (is_zero v) (is_number w) (is_zero w) refl h.sums)))
tells Size Get i j k l v w h = absurd (let e : true ≡ false = h.reads in cc)
tells Size Put i j k l v w h = turn _ _ refl (bind_size Put j i l k w v refl)
tells Size Swap i j k l v w h = turn _ _ refl (bind_size Swap j i l k w v refl)
tells Size Del i j k l v w h = turn _ _ refl (del_size j i l k w v)
tells Size Size i j k l v w h = absurd (let e : true ≡ false = h.reads in cc)
tells Size Bump i j k l v w h = turn _ _ refl (bump_size j i l k w v (second_number Size Bump (is_number v) (is_zero v) (is_number w) (is_zero w) refl h.sums))
tells Bump Get i j k l v w h = at_key Bump Get i j k l v w (h.keys refl) (bump_get i j k v w (first_number Bump Get (is_number v) (is_zero v) (is_number w) (is_zero w) refl h.sums))
tells Bump Put i j k l v w h =
    let p : (is_zero v ≡ false) × (is_number w ≡ true) = put_second Bump Put (is_number v) (is_zero v) (is_number w) (is_zero w) refl refl h.sums in
    at_key Bump Put i j k l v w (h.keys refl) (bump_put i j k v w h.held.0 (first_number Bump Put (is_number v) (is_zero v) (is_number w) (is_zero w) refl h.sums) p.0 p.1)
tells Bump Swap i j k l v w h = at_key Bump Swap i j k l v w (h.keys refl) (bump_swap i j k v w (first_number Bump Swap (is_number v) (is_zero v) (is_number w) (is_zero w) refl h.sums))
tells Bump Del i j k l v w h = at_key Bump Del i j k l v w (h.keys refl) (bump_del i j k v w (first_number Bump Del (is_number v) (is_zero v) (is_number w) (is_zero w) refl h.sums))
tells Bump Size i j k l v w h = bump_size i j k l v w (first_number Bump Size (is_number v) (is_zero v) (is_number w) (is_zero w) refl h.sums)
tells Bump Bump i j k l v w h = absurd (let e : true ≡ false = h.sums in cc)
tells Has Has i j k l v w h = absurd (let e : true ≡ false = h.reads in cc)
tells Has Add i j k l v w h = at_key Has Add i j k l v w (h.keys refl) (has_join Add i j k v w refl)
tells Has Mark i j k l v w h = at_key Has Mark i j k l v w (h.keys refl) (has_join Mark i j k v w refl)
tells Has Drop i j k l v w h = at_key Has Drop i j k l v w (h.keys refl) (has_drop i j k v w)
tells Has Count i j k l v w h = absurd (let e : true ≡ false = h.reads in cc)
tells Add Has i j k l v w h = turn _ _ refl (at_key Has Add j i l k w v (sym (h.keys refl)) (has_join Add j i l w v refl))
tells Add Add i j k l v w h = at_key Add Add i j k l v w (h.keys refl) (add_join Add i j k v w refl)
tells Add Mark i j k l v w h = at_key Add Mark i j k l v w (h.keys refl) (add_join Mark i j k v w refl)
tells Add Drop i j k l v w h = at_key Add Drop i j k l v w (h.keys refl) (join_drop Add i j k v w refl)
tells Add Count i j k l v w h = join_count Add i j k l v w refl
tells Mark Has i j k l v w h = turn _ _ refl (at_key Has Mark j i l k w v (sym (h.keys refl)) (has_join Mark j i l w v refl))
tells Mark Add i j k l v w h = turn _ _ refl (at_key Add Mark j i l k w v (sym (h.keys refl)) (add_join Mark j i l w v refl))
tells Mark Mark i j k l v w h = absurd (same_plain k l (h.keys refl) h.change)
tells Mark Drop i j k l v w h = at_key Mark Drop i j k l v w (h.keys refl) (join_drop Mark i j k v w refl)
tells Mark Count i j k l v w h = join_count Mark i j k l v w refl
tells Drop Has i j k l v w h = turn _ _ refl (at_key Has Drop j i l k w v (sym (h.keys refl)) (has_drop j i l w v))
tells Drop Add i j k l v w h = turn _ _ refl (at_key Add Drop j i l k w v (sym (h.keys refl)) (join_drop Add j i l w v refl))
tells Drop Mark i j k l v w h = turn _ _ refl (at_key Mark Drop j i l k w v (sym (h.keys refl)) (join_drop Mark j i l w v refl))
tells Drop Drop i j k l v w h = absurd (same_plain k l (h.keys refl) h.change)
tells Drop Count i j k l v w h = drop_count i j k l v w
tells Count Has i j k l v w h = absurd (let e : true ≡ false = h.reads in cc)
tells Count Add i j k l v w h = turn _ _ refl (join_count Add j i l k w v refl)
tells Count Mark i j k l v w h = turn _ _ refl (join_count Mark j i l k w v refl)
tells Count Drop i j k l v w h = turn _ _ refl (drop_count j i l k w v)
tells Count Count i j k l v w h = absurd (let e : true ≡ false = h.reads in cc)
tells x y i j k l v w h = absurd (let e : false ≡ true = h.homes in cc)

-- ---- in tables that both fit
pub set_there : (shape : List TableKind) (i : ℕ) (kind : TableKind) → slice_get shape i ≡ Some kind → put_at shape i kind ≡ shape
set_there [] i kind h = refl
set_there (x ∷ shape) zero kind h = ap (λ (y : TableKind). y ∷ shape) (same_Some kind x (sym h))
set_there (x ∷ shape) (suc i) kind h = ap (λ (s : List TableKind). x ∷ s) (set_there shape i kind h)

on_one : (i : ℕ) (ts : Tables) (a b : Op) → i < length ts → SwapsAt i i ts a b → SwapsOn (table ts i) a b
on_one i ts a b l s = record {
  after = sym (get_or-set_same ts i (after_on (after_on (table ts i) a) b) (empty_of Map) l) ∙ ap (λ (us : Tables). table us i) (sym (twice_after i ts a b l) ∙ s.tables ∙ twice_after i ts b a l) ∙ get_or-set_same ts i (after_on (after_on (table ts i) b) a) (empty_of Map) l;
  first = s.first ∙ ap (λ (c : Container). reply_on c a) (table_after i ts b l);
  second = ap (λ (c : Container). reply_on c b) (sym (table_after i ts a l)) ∙ s.second;
}

told : (a b : Op) (shape : List TableKind) → a.table ≡ b.table → slice_get shape a.table ≡ Some (home a.kind) → Tells a b → ToldApart shape a b
told a b shape same f t =
    let ts : Tables = put_at (start shape) a.table t.container in
    let l : a.table < length (start shape) = omega (arith, slice_get_within shape a.table (home a.kind) f, start_length shape) in
    let here : table ts a.table ≡ t.container = get_or-set_same (start shape) a.table t.container (empty_of Map) l in
    let P : ℕ → Type 0 = λ j. SwapsAt a.table j ts a b in
    let Q : Container → Type 0 = λ c. SwapsOn c a b in
    record {
      tables = ts;
      container = t.container;
      telling = t.telling;
      state = refl;
      kinds = map-set kind_of (start shape) a.table t.container ∙ ap (λ (s : List TableKind). put_at s a.table (kind_of t.container)) (kinds_of_start shape) ∙ ap (put_at shape a.table) t.kind ∙ set_there shape a.table (home a.kind) f;
      values = λ p q. values_put (start shape) a.table t.container (t.values p q) (values_of_start shape);
      differ = λ s. t.differ (subst Q here (on_one a.table ts a b (omega (arith, l, length-set (start shape) a.table t.container)) (subst P (sym same) (swaps_to ts a b s))));
    }

-- the rule but for bumps
abbrev most : Op → Op → Bool
most a b = not (eqb a.table b.table) || not (same_bool (is_on_map a.kind) (is_on_map b.kind)) || (is_read a.kind && is_read b.kind) || (is_keyed a.kind && is_keyed b.kind && not (value_eq a.key b.key)) || (is_plain a.kind && eqb (kind_place a.kind) (kind_place b.kind) && value_eq a.key b.key && (not (eqb (kind_place a.kind) 1) || value_eq a.value b.value))

commutes_tells : (a b : Op) → IsValue a.value → IsValue b.value → commutes a b ≡ false → (a.table ≡ b.table) × Tells a b
commutes_tells a b v w f =
    let g : (most a b ≡ false) × (sums a b ≡ false) = or_parts _ _ f in
    let h : most a b ≡ false = g.0 in
    let p : ((not (eqb a.table b.table) || not (same_bool (is_on_map a.kind) (is_on_map b.kind)) || (is_read a.kind && is_read b.kind) || (is_keyed a.kind && is_keyed b.kind && not (value_eq a.key b.key))) ≡ false) × ((is_plain a.kind && eqb (kind_place a.kind) (kind_place b.kind) && value_eq a.key b.key && (not (eqb (kind_place a.kind) 1) || value_eq a.value b.value)) ≡ false) = or_parts _ _ h in
    let q : ((not (eqb a.table b.table) || not (same_bool (is_on_map a.kind) (is_on_map b.kind)) || (is_read a.kind && is_read b.kind)) ≡ false) × ((is_keyed a.kind && is_keyed b.kind && not (value_eq a.key b.key)) ≡ false) = or_parts _ _ p.0 in
    let r : ((not (eqb a.table b.table) || not (same_bool (is_on_map a.kind) (is_on_map b.kind))) ≡ false) × ((is_read a.kind && is_read b.kind) ≡ false) = or_parts _ _ q.0 in
    let s : (not (eqb a.table b.table) ≡ false) × (not (same_bool (is_on_map a.kind) (is_on_map b.kind)) ≡ false) = or_parts _ _ r.0 in
    let e : a.table ≡ b.table = eqb-true a.table b.table (not-false _ s.0) in
    let t : Tells a b = tells a.kind b.kind a.table b.table a.key b.key a.value b.value (record {
      homes = not-false _ s.1;
      reads = r.1;
      keys = λ k. same_value a.key b.key (not-false (value_eq a.key b.key) (and_right (is_keyed a.kind && is_keyed b.kind) (not (value_eq a.key b.key)) k q.1));
      change = p.1;
      sums = g.1;
      held = (v, w);
    }) in
    (e, t)

-- the test is right where it says that they don't
pub commutes-Differ : (a b : Op) → IsValue a.value → IsValue b.value → commutes a b ≡ false → Differ a b
commutes-Differ a b v w h = let p : (a.table ≡ b.table) × Tells a b = commutes_tells a b v w h in record { at = λ shape f g. told a b shape p.0 f.table p.1 }

pub last_of : (n : ℕ) (kind : TableKind) → slice_get (replicate (suc n) kind) n ≡ Some kind
last_of zero kind = refl
last_of (suc n) kind = last_of n kind

pub not_commute : (a b : Op) → IsValue a.value → IsValue b.value → commutes a b ≡ false → Commute a b → ⊥
not_commute a b v w h k =
    let p : (a.table ≡ b.table) × Tells a b = commutes_tells a b v w h in
    let t : ToldApart (replicate (suc a.table) (home a.kind)) a b = told a b (replicate (suc a.table) (home a.kind)) p.0 (last_of a.table (home a.kind)) p.1 in
    t.differ (k.at t.tables)

-- the test decides
pub decided : (a b : Op) (r : Bool) → IsHeld a → IsHeld b → r ≡ commutes a b → MatchBool r (Commute a b) (Differ a b)
decided a b true f g e = commutes-Commute a b f.value g.value (sym e)
decided a b false f g e = commutes-Differ a b f.value g.value (sym e)

-- to commute at all tables of kinds that both fit is to commute
pub everywhere : (shape : List TableKind) (a b : Op) → IsHeld a → IsHeld b → Fits shape a → Fits shape b → CommuteAt shape a b → Commute a b
everywhere shape a b p q f g h = go (commutes a b) refl
  where
    go : (r : Bool) → commutes a b ≡ r → Commute a b
    go true e = commutes-Commute a b p.value q.value e
    go false e = let t : ToldApart shape a b = (commutes-Differ a b p.value q.value e).at shape f g in absurd (t.differ (h.at t.tables t.kinds (t.values p.key q.key)))

pub Decides-commute : (a b : Op) (r : Bool) → IsHeld a → IsHeld b → r ≡ commutes a b → Decides r (Commute a b)
Decides-commute a b r f g e = (λ h. commutes-Commute a b f.value g.value (sym e ∙ h), λ k. e ∙ go (commutes a b) refl k)
  where
    go : (c : Bool) → commutes a b ≡ c → Commute a b → commutes a b ≡ true
    go true h k = h
    go false h k = absurd (not_commute a b f.value g.value h k)
