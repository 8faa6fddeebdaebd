-- The lists of a closed hall as tables that open.
use Rattle.std.proofs.Common.{◌≡◌, ℕ, suc, ◌+◌, ◌*◌, ◌/◌, ◌%◌, ◌<◌, Bool, true, false, cond, ◌||◌, List, [], ◌∷◌, ◌++◌, length, map as map_list, drop, Option, Some, is_some, refl, sym, ◌∙◌, ap, arith}
use Rattle.std.specs.Prelude.{slice_get}
use Rattle.std.specs.List.{AllByRecursion, list_any}
use Rattle.std.specs.FinMap as map
use Rattle.std.specs.FinSet as set
use Rattle.std.proofs.lemmas.Nat.{div-mul-add}
use Rattle.session_values.specs.declared.kind.TableKind.{TableKind}
use Rattle.session_values.specs.declared.kind.TableKind.TheVariants.{Map, Set}
use Rattle.session_values.specs.declared.value.Value.{Value}
use Rattle.session_values.specs.declared.value.Value.TheVariants.{Nil}
use Rattle.session_values.specs.Tables.{Tables, kind_of, size_of, table}
use Rattle.session_values.specs.Values.{value_cmp, value_cmp_total, value_eq}
use Rattle.session_values.proofs.Options.{in_drop, in_take}
use Rattle.session_values.proofs.KindLemmas.{map_set}
use Rattle.session_values.proofs.Openings.{opening_kinds}
use Rattle.session_hall.specs.Script.{Meaning}
use Rattle.session_hall.specs.Part.TheVariants as shard
use Rattle.session_hall.specs.Part.{Part}
use Rattle.session_hall.specs.Either.{as_entries, entries_in, shard_view}
use Rattle.session_hall.specs.Listing.{all_entries}
use Rattle.session_hall.proofs.PartSteps.{part_kind}
use Rattle.session_hall.proofs.Shares.{kind_table, length-after}
use Rattle.session_hall.specs.Closings.{ClosedView, IsDone}
use Rattle.session_hall.specs.Listings.{AreLeft, listed, shards_at}
use Rattle.session_hall.proofs.Giving.{opens}
use Rattle.client_feed.specs.Reopening.{final_of}
use Rattle.session_values.specs.Opening.{AreApart, HaveNil, Pair, container_of, entries_of, has_key, tables_of}
use Rattle.session_values.proofs.KeptLemmas.{key_found}

-- ---- entries of which each key stands once are as many as the keys
keys_listed : (k : Value) (es : List Pair) → list_any (value_eq k) (map_list (λ (e : Pair). e.0) es) ≡ has_key es k
keys_listed k [] = refl
keys_listed k (e ∷ es) = ap (λ (b : Bool). value_eq k e.0 || b) (keys_listed k es)

grows : (b : Bool) (n m k : ℕ) → b ≡ false → n ≡ cond b m (m + 1) → m ≡ k → n ≡ suc k
grows true n m k f e s = cc
grows false n m k f e s = omega (arith, e, s)

pub size_apart : (kind : TableKind) (es : List Pair) → AreApart es → size_of (container_of kind es) ≡ length es
size_apart Map [] a = map.len-empty value_cmp Value
size_apart Set [] a = set.len-empty value_cmp
size_apart Map (e ∷ es) a =
    let m : map.FinMap value_cmp Value = map.from_entries es in
    grows (map.contains_key m e.0) (map.len (map.insert m e.0 e.1)) (map.len m) (length es)
    (ap (λ (o : Option Value). is_some o) (map.get-from_entries value_cmp_total es e.0) ∙ key_found e.0 es ∙ a.0)
    (map.len-insert value_cmp_total m e.0 e.1) (size_apart Map es a.1)
size_apart Set (e ∷ es) a =
    let ks : List Value = map_list (λ (x : Pair). x.0) es in
    let s : set.FinSet value_cmp = set.from_list ks in
    grows (set.contains s e.0) (set.len (set.insert s e.0)) (set.len s) (length es)
    (set.contains-from_list value_cmp_total ks e.0 ∙ keys_listed e.0 es ∙ a.0)
    (set.len-insert value_cmp_total s e.0) (size_apart Set es a.1)

-- ---- lists that make the same containers make the same tables
pub same_tables : (shape : List TableKind) (lists : List (List Pair)) (ts : Tables) → length lists ≡ length shape → length ts ≡ length shape
    → ((t : ℕ) (kind : TableKind) → slice_get shape t ≡ Some kind → container_of kind (entries_of lists t) ≡ table ts t) → tables_of shape lists ≡ ts
same_tables [] lists [] l m h = refl
same_tables [] lists (c ∷ ts) l m h = absurd (omega (arith, m))
same_tables (k ∷ shape) [] ts l m h = absurd (omega (arith, l))
same_tables (k ∷ shape) (es ∷ lists) [] l m h = absurd (omega (arith, m))
same_tables (k ∷ shape) (es ∷ lists) (c ∷ ts) l m h =
    let first : container_of k es ≡ c = h 0 k refl in
    let rest : tables_of shape lists ≡ ts = same_tables shape lists ts (omega (arith, l)) (omega (arith, m)) (λ t kind e. h (suc t) kind e) in
    λ j. first j ∷ rest j

-- ---- nil stands with each member
pub have_nil : (shape : List TableKind) (lists : List (List Pair)) → length lists ≡ length shape
    → ((t : ℕ) → slice_get shape t ≡ Some Set → AllByRecursion (λ (e : Pair). e.1 ≡ Nil) (entries_of lists t)) → HaveNil shape lists
have_nil [] [] l h = tt
have_nil [] (es ∷ lists) l h = absurd (omega (arith, l))
have_nil (k ∷ shape) [] l h = absurd (omega (arith, l))
have_nil (Map ∷ shape) (es ∷ lists) l h = have_nil shape lists (omega (arith, l)) (λ t e. h (suc t) e)
have_nil (Set ∷ shape) (es ∷ lists) l h = (h 0 refl, have_nil shape lists (omega (arith, l)) (λ t e. h (suc t) e))

-- ---- the parts of a set hold members
abbrev IsNil : Pair → Type 0
IsNil e = e.1 ≡ Nil

members_nil : (ks : List Value) → AllByRecursion IsNil (as_entries ks)
members_nil [] = tt
members_nil (k ∷ ks) = (refl, members_nil ks)

both : (xs ys : List Pair) → AllByRecursion IsNil xs → AllByRecursion IsNil ys → AllByRecursion IsNil (xs ++ ys)
both [] ys a b = b
both (x ∷ xs) ys a b = (a.0, both xs ys a.1 b)

all_nil : (ps : List Part) → ((j : ℕ) (p : Part) → slice_get ps j ≡ Some p → AllByRecursion IsNil (entries_in p)) → AllByRecursion IsNil (all_entries ps)
all_nil [] f = tt
all_nil (p ∷ ps) f = both (entries_in p) (all_entries ps) (f 0 p refl) (all_nil ps (λ j x e. f (suc j) x e))

part_nil : (p : Part) → kind_of (shard_view p).container ≡ Set → AllByRecursion IsNil (entries_in p)
part_nil (shard.Bindings s) e = absurd (map_set e)
part_nil (shard.Members s) e = members_nil s.value.entries

module _ (m : Meaning) (d : ClosedView) (k : IsDone m d) where
  pub final_long : length (final_of m) ≡ length m.shape
  final_long =
      ap (λ (ts : Tables). length ts) (sym k.tables)
      ∙ length-after m (ap (map_list kind_of) k.script_kept.opening ∙ opening_kinds m.shape m.opened) d.journal

  final_kind : (i : ℕ) (kind : TableKind) → slice_get m.shape i ≡ Some kind → kind_of (table (final_of m) i) ≡ kind
  final_kind i kind e = ap (λ (ts : Tables). kind_of (table ts i)) (sym k.tables) ∙ kind_table m (opens m k.script_kept) d.journal i kind e

  pub listed_nil : (i : ℕ) → slice_get m.shape i ≡ Some Set → AllByRecursion IsNil (listed d i)
  listed_nil i e = all_nil (shards_at d i) (λ j p at.
      let t : (j < d.shards) × (slice_get (drop (i * d.shards) d.parts) j ≡ Some p) = in_take (drop (i * d.shards) d.parts) d.shards j p at in
      let here = k.parts (i * d.shards + j) p (in_drop d.parts (i * d.shards) j p t.1) in
      part_nil p (
      ap kind_of here
      ∙ part_kind d.shards ((i * d.shards + j) % d.shards) (table (final_of m) ((i * d.shards + j) / d.shards))
      ∙ ap (λ (a : ℕ). kind_of (table (final_of m) a)) (div-mul-add i d.shards j t.0)
      ∙ final_kind i Set e
      ))

  -- as many entries as keys
  module _ (i : ℕ) (kind : TableKind) (at : slice_get m.shape i ≡ Some kind) (left : AreLeft m i (listed d i)) where
    pub length_left : length (listed d i) ≡ size_of (table (final_of m) i)
    length_left = sym (size_apart kind (listed d i) left.apart) ∙ ap size_of (left.are kind at)
