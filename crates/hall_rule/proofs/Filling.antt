-- A shard is filled with what it opens with, the last entry first.
use Rattle.std.proofs.Common.{◌≡◌, ◌≢◌, ℕ, zero, suc, ◌+◌, ◌≤◌, List, [], ◌∷◌, length, drop, Some, Bool, true, false, cond, eqb, refl, sym, ◌∙◌, ap, arith}
use Rattle.std.proofs.lemmas.Bool.{eq-eqb, ne_eqb}
use Rattle.std.proofs.lemmas.Option.{none-some, same_Some}
use Rattle.std.specs.Prelude.{slice_get}
use Rattle.std.specs.FinMap as map
use Rattle.std.specs.FinSet as set
use Rattle.session_values.specs.declared.kind.Kind.TheVariants.{Put, Mark}
use Rattle.session_values.specs.declared.value.Value.{Value}
use Rattle.session_values.specs.declared.value.Value.TheVariants.{Nil}
use Rattle.session_values.specs.Values.{value_cmp}
use Rattle.session_values.specs.declared.kind.TableKind.{TableKind}
use Rattle.session_values.specs.declared.kind.TableKind.TheVariants.{Map, Set}
use Rattle.session_values.specs.declared.op.Op.{Op}
use Rattle.session_values.specs.Kinds.{is_adding}
use Rattle.session_journal.specs.Opening.{Pair, container_of, tables_of, entries_of}
use Rattle.session_values.specs.Tables.{after_on, empty_of, size_of, table}
use Rattle.session_values.proofs.Sizes.{on_few, one_most}
use Rattle.session_values.proofs.Options.{drop_step}
use Rattle.shard_tables.specs.Parts.{part, shard_of}
use Rattle.shard_tables.proofs.PartSteps.{part_after, part_empty, part_stays}
use Rattle.hall_rule.specs.Filling.{count_in}

-- ---- entries from a place on
module _ (n j : ℕ) where
  pub count_length : (es : List Pair) → count_in n j es ≤ length es
  count_length [] = omega arith
  count_length (e ∷ es) = omega (arith, one (eqb (shard_of n e.0) j), count_length es)
    where
      one : (b : Bool) → cond b 1 0 ≤ 1
      one true = omega arith
      one false = omega arith

  pub count_drop : (i : ℕ) (es : List Pair) → count_in n j (drop i es) ≤ count_in n j es
  count_drop zero es = omega arith
  count_drop (suc i) [] = omega arith
  count_drop (suc i) (e ∷ es) = omega (arith, count_drop i es)

  pub count_step : (es : List Pair) (i : ℕ) (e : Pair) → slice_get es i ≡ Some e → count_in n j (drop i es) ≡ cond (eqb (shard_of n e.0) j) 1 0 + count_in n j (drop (i + 1) es)
  count_step es i e h = ap (count_in n j) (drop_step es i e h)

  pub count_here : (es : List Pair) (i : ℕ) (e : Pair) → slice_get es i ≡ Some e → shard_of n e.0 ≡ j → count_in n j (drop i es) ≡ 1 + count_in n j (drop (i + 1) es)
  count_here es i e h at = count_step es i e h ∙ ap (λ (b : Bool). cond b 1 0 + count_in n j (drop (i + 1) es)) (eq-eqb (shard_of n e.0) j at)

  pub count_elsewhere : (es : List Pair) (i : ℕ) (e : Pair) → slice_get es i ≡ Some e → shard_of n e.0 ≢ j → count_in n j (drop i es) ≡ count_in n j (drop (i + 1) es)
  count_elsewhere es i e h at =
      let z : count_in n j (drop i es) ≡ 0 + count_in n j (drop (i + 1) es) = count_step es i e h ∙ ap (λ (b : Bool). cond b 1 0 + count_in n j (drop (i + 1) es)) (ne_eqb (shard_of n e.0) j at) in
      omega (arith, z)

  module _ (kind : TableKind) (e : Pair) (op : Op) (key : op.key ≡ e.0) (enters : (es : List Pair) → after_on (container_of kind es) op ≡ container_of kind (e ∷ es)) where
    -- one more entry of this shard, and one of another
    pub filled_here : (es : List Pair) → eqb (shard_of n e.0) j ≡ true → after_on (part n j (container_of kind es)) op ≡ part n j (container_of kind (e ∷ es))
    filled_here es h = sym (part_after (λ k. eqb (shard_of n k) j) (container_of kind es) op (ap (λ k. eqb (shard_of n k) j) key ∙ h)) ∙ ap (part n j) (enters es)

    pub filled_elsewhere : (es : List Pair) → eqb (shard_of n e.0) j ≡ false → part n j (container_of kind es) ≡ part n j (container_of kind (e ∷ es))
    filled_elsewhere es h = sym (part_stays (λ k. eqb (shard_of n k) j) (container_of kind es) op (ap (λ k. eqb (shard_of n k) j) key ∙ h)) ∙ ap (part n j) (enters es)

    part_more : (es : List Pair) → size_of (part n j (container_of kind es)) ≤ count_in n j es → size_of (part n j (container_of kind (e ∷ es))) ≤ cond (eqb (shard_of n e.0) j) 1 0 + count_in n j es
    part_more es l = go (eqb (shard_of n e.0) j) refl
      where
        go : (b : Bool) → eqb (shard_of n e.0) j ≡ b → size_of (part n j (container_of kind (e ∷ es))) ≤ cond b 1 0 + count_in n j es
        go true h = omega (arith, ap size_of (filled_here es h), on_few (part n j (container_of kind es)) op, one_most (is_adding op.kind), l)
        go false h = omega (arith, ap size_of (filled_elsewhere es h), l)

  kind_none : (kind : TableKind) → empty_of kind ≡ container_of kind []
  kind_none Map = refl
  kind_none Set = refl

  pub part_none : (kind : TableKind) → part n j (container_of kind []) ≡ container_of kind []
  part_none kind = ap (part n j) (sym (kind_none kind)) ∙ part_empty n j kind ∙ kind_none kind

-- ---- a shard has at most as many keys as entries
entering : TableKind → Pair → Op
entering Map e = record { kind = Put; table = 0; key = e.0; value = e.1 }
entering Set e = record { kind = Mark; table = 0; key = e.0; value = Nil }

its_key : (kind : TableKind) (e : Pair) → (entering kind e).key ≡ e.0
unfolding entering
its_key Map e = refl
its_key Set e = refl

it_enters : (kind : TableKind) (e : Pair) (es : List Pair) → after_on (container_of kind es) (entering kind e) ≡ container_of kind (e ∷ es)
unfolding entering
it_enters Map e es = refl
it_enters Set e es = refl

no_keys : (kind : TableKind) → size_of (container_of kind []) ≡ 0
no_keys Map = map.len-empty value_cmp Value
no_keys Set = set.len-empty value_cmp

pub part_count : (n j : ℕ) (kind : TableKind) (es : List Pair) → size_of (part n j (container_of kind es)) ≤ count_in n j es
part_count n j kind [] = omega (arith, ap size_of (part_none n j kind), no_keys kind)
part_count n j kind (e ∷ es) = part_more n j kind e (entering kind e) (its_key kind e) (it_enters kind e) es (part_count n j kind es)

-- a table of these kinds holds the entries that it opens with
pub opening_at : (shape : List TableKind) (lists : List (List Pair)) (i : ℕ) (kind : TableKind) → slice_get shape i ≡ Some kind → table (tables_of shape lists) i ≡ container_of kind (entries_of lists i)
opening_at [] lists i kind h = absurd (none-some kind h)
opening_at (k ∷ shape) [] zero kind h = ap (λ (x : TableKind). container_of x []) (same_Some k kind h)
opening_at (k ∷ shape) [] (suc i) kind h = opening_at shape [] i kind h
opening_at (k ∷ shape) (es ∷ lists) zero kind h = ap (λ (x : TableKind). container_of x es) (same_Some k kind h)
opening_at (k ∷ shape) (es ∷ lists) (suc i) kind h = opening_at shape lists i kind h

-- what isn't of a shard leaves it as it is
pub part_passed : (n j : ℕ) (kind : TableKind) (e : Pair) (es : List Pair) → eqb (shard_of n e.0) j ≡ false → part n j (container_of kind es) ≡ part n j (container_of kind (e ∷ es))
part_passed n j kind e es h = filled_elsewhere n j kind e (entering kind e) (its_key kind e) (it_enters kind e) es h
