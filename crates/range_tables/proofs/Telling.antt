-- The tables that tell an operation and a count apart.
use Rattle.std.proofs.Common.{◌≡◌, ℕ, ℤ, pos, suc, ◌-◌, ◌<◌, List, length, length-set, Option, Some, is_some, Bool, true, false, cond, not, ◌||◌, eqb, refl, sym, ◌∙◌, ap, subst, arith, replicate, lit<}
use Rattle.std.specs.Prelude.{slice_get}
use Rattle.std.specs.Bool.{MatchBool, Decides}
use Rattle.std.proofs.Math.ListN.{set as put_at}
use Rattle.std.proofs.lemmas.List.{get_or-set_same, map-set}
use Rattle.std.proofs.lemmas.Bool.Decides.{same_from_decides}
use Rattle.std.proofs.lemmas.Bool.{eqb-true, true≢false, or_parts, not-false}
use Rattle.std.proofs.lemmas.Option.{slice_get_within}
use Rattle.std.specs.FinMap as map
use Rattle.session_values.specs.declared.kind.Kind.{Kind}
use Rattle.session_values.specs.declared.kind.Kind.TheVariants.{Get, Put, Swap, Del, Size, Bump, Has, Add, Mark, Drop, Count}
use Rattle.session_values.specs.declared.kind.TableKind.{TableKind}
use Rattle.session_values.specs.declared.kind.TableKind.TheVariants.{Map}
use Rattle.session_values.specs.declared.op.Op.{Op}
use Rattle.session_values.specs.declared.value.Value.{Value}
use Rattle.session_values.specs.declared.value.Value.TheVariants.{Nil, Num, Sym}
use Rattle.session_values.specs.Values.{value_cmp, value_cmp_total, IsValue}
use Rattle.session_values.specs.Kinds.{is_on_map}
use Rattle.session_values.specs.Op.{IsHeld}
use Rattle.session_values.specs.Tables.{Tables, Container, Bindings, empty_of, start, table, step, after_on, bound_to, bumped, map_after, size_of, kind_of, AreValues}
use Rattle.session_values.specs.Commuting.{Commute}
use Rattle.session_values.proofs.Starts.{kinds_of_start, start_length, values_of_start, values_none}
use Rattle.commute_tables.specs.Relation.{commutes, is_number}
use Rattle.commute_tables.specs.ToldApart.{ToldApart, Differ}
use Rattle.commute_tables.proofs.OneTable.{step_at, table_after}
use Rattle.commute_tables.proofs.TellingApart.{commutes-Differ, Decides-commute, not_commute, set_there, last_of}
use Rattle.commute_tables.proofs.TellingApartPairs.{no_map, got, len_one, len_none, values_one}
use Rattle.shard_tables.proofs.PartSteps.{part_after, none_in_empty_map}
use Rattle.range_tables.specs.declared.range_op.RangeOp.{RangeOp}
use Rattle.range_tables.specs.declared.range_op.RangeOp.TheVariants.{Plain, Between}
use Rattle.range_tables.specs.Ranges.{is_between, count_between, between_on, range_reply, range_step, IsHeldRange}
use Rattle.range_tables.specs.Commuting.{RangeSwaps, RangeCommute, RangeToldApart, RangeDiffer}
use Rattle.range_tables.specs.Relation.{changes_nothing, commutes_count, range_commutes}
use Rattle.range_tables.proofs.Counting.{commutes-RangeCommute, plain_only, plain_swaps, turned}
use Rattle.session_values.proofs.Puts.{values_put}
use Rattle.session_values.proofs.Numbers.{one_zero}

-- a map on which an operation changes a count
record Changes (op : Op) (low high : ℤ) : Type 0 where
  before : map.FinMap value_cmp Value
  values : IsValue op.key → AreValues (Bindings before)
  differ : between_on low high (after_on (Bindings before) op) ≡ between_on low high (Bindings before) → ⊥

abbrev op_of : Kind → ℕ → Value → Value → Op
op_of kind i k v = record { kind = kind; table = i; key = k; value = v }

none_counted : (low high : ℤ) → count_between low high (Bindings no_map) ≡ 0
none_counted low high = ap (λ (n : map.FinMap value_cmp Value). map.len n) (none_in_empty_map (is_between low high)) ∙ len_none

-- an operation that binds a counted key of an empty map
one_counted : (low high : ℤ) (k v : Value) → is_between low high k ≡ true → count_between low high (Bindings (map.insert no_map k v)) ≡ 1
one_counted low high k v h =
    ap size_of (part_after (is_between low high) (Bindings no_map) (op_of Put 0 k v) h)
    ∙ ap (λ (n : map.FinMap value_cmp Value). map.len (map.insert n k v)) (none_in_empty_map (is_between low high)) ∙ len_one k v

len_gone : (k v : Value) → map.len (map.remove (map.insert no_map k v) k) ≡ 0
len_gone k v =
    map.len-remove value_cmp_total (map.insert no_map k v) k
    ∙ ap (λ (o : Option Value). cond (is_some o) (map.len (map.insert no_map k v) - 1) (map.len (map.insert no_map k v))) (got no_map k v)
    ∙ ap (λ (n : ℕ). n - 1) (len_one k v)

one_gone : (low high : ℤ) (k v : Value) → is_between low high k ≡ true → count_between low high (Bindings (map.remove (map.insert no_map k v) k)) ≡ 0
one_gone low high k v h =
    ap size_of (part_after (is_between low high) (Bindings (map.insert no_map k v)) (op_of Del 0 k v) h)
    ∙ ap (λ (c : Container). size_of (after_on c (op_of Del 0 k v))) (part_after (is_between low high) (Bindings no_map) (op_of Put 0 k v) h)
    ∙ ap (λ (n : map.FinMap value_cmp Value). map.len (map.remove (map.insert n k v) k)) (none_in_empty_map (is_between low high))
    ∙ len_gone k v

numbers_apart : (m n : ℕ) → ◌≡◌ {A = Value} (Num (pos m)) (Num (pos n)) → m ≡ 1 → n ≡ 0 → ⊥
numbers_apart m n e p q = one_zero (sym p ∙ inside m n e ∙ q)
  where
    inside : (m n : ℕ) → ◌≡◌ {A = Value} (Num (pos m)) (Num (pos n)) → m ≡ n
    inside m n e = cc

binds_more : (kind : Kind) (i : ℕ) (k v : Value) (low high : ℤ) → map_after no_map kind k v ≡ map.insert no_map k v → is_between low high k ≡ true → Changes (op_of kind i k v) low high
binds_more kind i k v low high is h = record {
  before = no_map;
  values = λ p. values_none;
  differ = λ e. numbers_apart _ _ (ap (λ (n : map.FinMap value_cmp Value). between_on low high (Bindings n)) (sym is) ∙ e) (one_counted low high k v h) (none_counted low high);
}

changes : (kind : Kind) (i : ℕ) (k v : Value) (low high : ℤ) → is_on_map kind ≡ true → changes_nothing kind (is_number v) ≡ false → is_between low high k ≡ true → Changes (op_of kind i k v) low high
changes Get i k v low high p q h = cc
changes Put i k v low high p q h = binds_more Put i k v low high refl h
changes Swap i k v low high p q h = binds_more Swap i k v low high refl h
changes Del i k v low high p q h = record {
  before = map.insert no_map k (Num (pos 0));
  values = λ l. values_one k (Num (pos 0)) l (lit< tt);
  differ = λ e. numbers_apart _ _ (sym e) (one_counted low high k (Num (pos 0)) h) (one_gone low high k (Num (pos 0)) h);
}
changes Size i k v low high p q h = cc
changes Bump i k Nil low high p q h = cc
changes Bump i k (Num d) low high p q h = binds_more Bump i k (Num d) low high (ap (λ (o : Option Value). bound_to no_map k (bumped (Num d) o)) (map.get-empty value_cmp k)) h
changes Bump i k (Sym s) low high p q h = cc
changes Has i k v low high p q h = cc
changes Add i k v low high p q h = cc
changes Mark i k v low high p q h = cc
changes Drop i k v low high p q h = cc
changes Count i k v low high p q h = cc

-- ---- in tables that both fit
count_after : (ts : Tables) (op : Op) (low high : ℤ) → RangeSwaps ts (Plain op) (Between op.table low high) → between_on low high (table (step_at op.table ts op) op.table) ≡ between_on low high (table ts op.table)
unfolding range_step range_reply step
count_after ts op low high s = s.second

told_count : (shape : List TableKind) (op : Op) (low high : ℤ) → slice_get shape op.table ≡ Some Map → IsValue op.key → Changes op low high → RangeToldApart shape (Plain op) (Between op.table low high)
told_count shape op low high f l t =
    let c : Container = Bindings t.before in
    let ts : Tables = put_at (start shape) op.table c in
    let r : op.table < length (start shape) = omega (arith, slice_get_within shape op.table Map f, start_length shape) in
    let q : op.table < length ts = omega (arith, r, length-set (start shape) op.table c) in
    let here : table ts op.table ≡ c = get_or-set_same (start shape) op.table c (empty_of Map) r in
    record {
      tables = ts;
      kinds = map-set kind_of (start shape) op.table c ∙ ap (λ (s : List TableKind). put_at s op.table Map) (kinds_of_start shape) ∙ set_there shape op.table Map f;
      values = values_put (start shape) op.table c (t.values l) (values_of_start shape);
      differ = λ s. t.differ (sym (ap (λ (d : Container). between_on low high (after_on d op)) here) ∙ sym (ap (between_on low high) (table_after op.table ts op q)) ∙ count_after ts op low high s ∙ ap (between_on low high) here);
    }

swap_told : (shape : List TableKind) (a b : RangeOp) → RangeToldApart shape a b → RangeToldApart shape b a
swap_told shape a b t = record {
  tables = t.tables;
  kinds = t.kinds;
  values = t.values;
  differ = λ s. t.differ (record { tables = sym s.tables; first = sym s.second; second = sym s.first });
}

pub other_order : (a b : RangeOp) → RangeDiffer a b → RangeDiffer b a
other_order a b d = record { at = λ shape f g. swap_told shape a b (d.at shape g f) }

-- what the test says where it says that an operation and a count don't commute
record Against (op : Op) (i : ℕ) (low high : ℤ) : Type 0 where
  table : op.table ≡ i
  on_map : is_on_map op.kind ≡ true
  changing : changes_nothing op.kind (is_number op.value) ≡ false
  key : is_between low high op.key ≡ true

against : (op : Op) (i : ℕ) (low high : ℤ) → commutes_count op (eqb op.table i) low high ≡ false → Against op i low high
against op i low high h =
    let p : ((not (eqb op.table i) || not (is_on_map op.kind) || changes_nothing op.kind (is_number op.value)) ≡ false) × (not (is_between low high op.key) ≡ false) = or_parts _ _ h in
    let q : ((not (eqb op.table i) || not (is_on_map op.kind)) ≡ false) × (changes_nothing op.kind (is_number op.value) ≡ false) = or_parts _ _ p.0 in
    let r : (not (eqb op.table i) ≡ false) × (not (is_on_map op.kind) ≡ false) = or_parts _ _ q.0 in
    record { table = eqb-true op.table i (not-false _ r.0); on_map = not-false _ r.1; changing = q.1; key = not-false _ p.1 }

count_differs : (op : Op) (i : ℕ) (low high : ℤ) → IsValue op.key → commutes_count op (eqb op.table i) low high ≡ false → RangeDiffer (Plain op) (Between i low high)
count_differs op i low high l h =
    let a : Against op i low high = against op i low high h in
    let t : Changes op low high = changes op.kind op.table op.key op.value low high a.on_map a.changing a.key in
    record {
      at = λ shape f g.
          let P : ℕ → Type 0 = λ j. RangeToldApart shape (Plain op) (Between j low high) in
          let Q : ℕ → Type 0 = λ j. slice_get shape j ≡ Some Map in
          subst P a.table (told_count shape op low high (subst Q (sym a.table) g) l t);
    }

pub plain_differ : (a b : Op) → IsValue a.key → IsValue b.key → Differ a b → RangeDiffer (Plain a) (Plain b)
plain_differ a b p q d = record { at = λ shape f g. told shape (d.at shape f g) }
  where
    told : (shape : List TableKind) → ToldApart shape a b → RangeToldApart shape (Plain a) (Plain b)
    told shape t = record { tables = t.tables; kinds = t.kinds; values = t.values p q; differ = λ s. t.differ (plain_swaps t.tables a b s) }

-- the test is right where it says that they don't commute
pub commutes-RangeDiffer : (a b : RangeOp) → IsHeldRange a → IsHeldRange b → range_commutes a b ≡ false → RangeDiffer a b
commutes-RangeDiffer (Plain a) (Plain b) p q h = plain_differ a b p.key q.key (commutes-Differ a b p.value q.value h)
commutes-RangeDiffer (Plain a) (Between i low high) p q h = count_differs a i low high p.key h
commutes-RangeDiffer (Between i low high) (Plain b) p q h = other_order (Plain b) (Between i low high) (count_differs b i low high q.key h)
commutes-RangeDiffer (Between i low high) (Between j l h) p q e = cc

pub count_not_commute : (op : Op) (i : ℕ) (low high : ℤ) → IsValue op.key → commutes_count op (eqb op.table i) low high ≡ false → RangeCommute (Plain op) (Between i low high) → ⊥
count_not_commute op i low high l h k =
    let a : Against op i low high = against op i low high h in
    let t : Changes op low high = changes op.kind op.table op.key op.value low high a.on_map a.changing a.key in
    let told : RangeToldApart (replicate (suc op.table) Map) (Plain op) (Between op.table low high) = told_count (replicate (suc op.table) Map) op low high (last_of op.table Map) l t in
    let P : ℕ → Type 0 = λ j. RangeCommute (Plain op) (Between j low high) in
    told.differ ((subst P (sym a.table) k).at told.tables)

pub range_not_commute : (a b : RangeOp) → IsHeldRange a → IsHeldRange b → range_commutes a b ≡ false → RangeCommute a b → ⊥
range_not_commute (Plain a) (Plain b) p q h k = not_commute a b p.value q.value h (plain_only a b k)
range_not_commute (Plain a) (Between i low high) p q h k = count_not_commute a i low high p.key h k
range_not_commute (Between i low high) (Plain b) p q h k = count_not_commute b i low high q.key h (turned (Between i low high) (Plain b) k)
range_not_commute (Between i low high) (Between j l h) p q e k = absurd (true≢false e)

-- the test decides
pub range_decided : (a b : RangeOp) (r : Bool) → IsHeldRange a → IsHeldRange b → r ≡ range_commutes a b → MatchBool r (RangeCommute a b) (RangeDiffer a b)
range_decided a b true p q e = commutes-RangeCommute a b p q (sym e)
range_decided a b false p q e = commutes-RangeDiffer a b p q (sym e)

pub Decides-range_commute : (a b : RangeOp) (r : Bool) → IsHeldRange a → IsHeldRange b → r ≡ range_commutes a b → Decides r (RangeCommute a b)
Decides-range_commute a b r p q e = (λ h. commutes-RangeCommute a b p q (sym e ∙ h), λ k. e ∙ go (range_commutes a b) refl k)
  where
    go : (c : Bool) → range_commutes a b ≡ c → RangeCommute a b → range_commutes a b ≡ true
    go true f k = f
    go false f k = absurd (range_not_commute a b p q f k)

pub told_plain : (a b : Op) (r : Bool) → IsHeld a → IsHeld b → Decides r (Commute a b) → r ≡ commutes a b
told_plain a b r p q d = same_from_decides r (commutes a b) d (Decides-commute a b (commutes a b) p q refl)
