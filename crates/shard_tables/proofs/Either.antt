-- The entries of a shard of either kind: what it holds, and that no key stands twice.
use Rattle.std.proofs.Common.{◌≡◌, List, [], ◌∷◌, map as map_list, Option, Some, None, Bool, true, false, cond, ◌||◌, refl, sym, ap}
use Rattle.std.specs.Prelude.{find}
use Rattle.std.specs.FinSet as set
use Rattle.session_values.specs.declared.value.Value.{Value}
use Rattle.session_values.specs.declared.kind.TableKind.{TableKind}
use Rattle.session_values.specs.declared.kind.TableKind.TheVariants.{Map, Set}
use Rattle.session_values.specs.Tables.{Members, kind_of}
use Rattle.session_values.specs.Values.{value_eq}
use Rattle.session_values.specs.Opening.{Pair, AreApart, container_of, has_key}
use Rattle.shard_tables.specs.Keys.{AreDifferent, is_under}
use Rattle.shard_tables.specs.declared.part.Part.{Part}
use Rattle.shard_tables.specs.declared.part.Part.TheVariants as shard
use Rattle.shard_tables.specs.Either.{as_entries, entries_in, shard_view}

map_set : ◌≡◌ {A = TableKind} Map Set → ⊥
map_set e = cc

-- a shard holds its entries
pub held_is : (p : Part) (kind : TableKind) → kind_of (shard_view p).container ≡ kind → container_of kind (entries_in p) ≡ (shard_view p).container
held_is (shard.Bindings s) Map h = refl
held_is (shard.Bindings s) Set h = absurd (map_set h)
held_is (shard.Members s) Set h = ap (λ (ks : List Value). Members (set.from_list ks)) (keys_back s.value.entries)
  where
    keys_back : (ks : List Value) → map_list (λ (e : Pair). e.0) (as_entries ks) ≡ ks
    keys_back [] = refl
    keys_back (k ∷ ks) = ap (λ (l : List Value). k ∷ l) (keys_back ks)
held_is (shard.Members s) Map h = absurd (map_set (sym h))

-- ---- keys that differ stand apart
apart_step : {X : Type 0} (x : X) (b c : Bool) (o : Option X) → (o ≡ None → c ≡ false) → cond b (Some x) o ≡ None → (b || c) ≡ false
apart_step x true c o f h = cc
apart_step x false c o f h = f h

no_pair : (es : List Pair) (k : Value) → find (is_under (λ (e : Pair). e.0) k) es ≡ None → has_key es k ≡ false
no_pair [] k h = refl
no_pair (e ∷ es) k h = apart_step e (value_eq k e.0) (has_key es k) (find (is_under (λ (x : Pair). x.0) k) es) (no_pair es k) h

pub pairs_apart : (es : List Pair) → AreDifferent (λ (e : Pair). e.0) es → AreApart es
pairs_apart [] d = tt
pairs_apart (e ∷ es) d = (no_pair es e.0 d.0, pairs_apart es d.1)

no_member : (ks : List Value) (k : Value) → find (is_under (λ (x : Value). x) k) ks ≡ None → has_key (as_entries ks) k ≡ false
no_member [] k h = refl
no_member (x ∷ ks) k h = apart_step x (value_eq k x) (has_key (as_entries ks) k) (find (is_under (λ (y : Value). y) k) ks) (no_member ks k) h

pub members_apart : (ks : List Value) → AreDifferent (λ (k : Value). k) ks → AreApart (as_entries ks)
members_apart [] d = tt
members_apart (k ∷ ks) d = (no_member ks k d.0, members_apart ks d.1)
