-- Whole tables, one of them read or written back.
use Rattle.std.proofs.Common.{◌≡◌, ℕ, zero, suc, ◌+◌, ◌<◌, ◌≤◌, length, take, drop, get_or, arith, List, [], ◌∷◌, ◌++◌, map, Some, refl, sym, ap, ◌∙◌, subst, slice_get, IsOk, OnErr, Result, Ok, Err}
use Rattle.std.proofs.Math.ListN.{set}
use Rattle.std.proofs.lemmas.List.{drop_all, length-map, map-append}
use Rattle.std.specs.Prelude.{slice_index_or}
use Rattle.std.proofs.lemmas.Option.{same_Some, slice_get_within}
use Rattle.session_values.specs.declared.kind.TableKind.{TableKind}
use Rattle.session_values.specs.declared.kind.TableKind.TheVariants.{Map, Set}
use Rattle.session_values.specs.Opening.{Pair, container_of, entries_of, tables_of}
use Rattle.session_values.specs.declared.op.Op.{Op}
use Rattle.session_values.specs.Kinds.{home}
use Rattle.session_values.specs.Tables.{Container, Tables, empty_of, table, reply, reply_on, step, after_on, kind_of}
use Rattle.shard_tables.specs.declared.part.Part.{Part}
use Rattle.shard_tables.specs.Either.{with_entry}
use Rattle.shard_tables.specs.Whole.{container_in, held}
use Rattle.session_values.proofs.KindLemmas.{set-table}

-- what is an error only where Q holds, is none where Q can't hold
pub ok_unless : {T E Q : Type 0} (r : Result T E) → (Q → ⊥) → OnErr r Q → IsOk r
ok_unless (Ok x) never h = refl
ok_unless (Err y) never h = absurd (never h)

-- the container of a kept table
table-kept : (ts : List Part) (i : ℕ) (t : Part) → i < length ts → get_or ts i t ≡ t → table (held ts) i ≡ container_in t
table-kept [] i t h e = absurd (omega (arith, h))
table-kept (x ∷ ts) zero t h e = ap container_in e
table-kept (x ∷ ts) (suc i) t h e = table-kept ts i t (omega (arith, h)) e

held-set : (ts : List Part) (i : ℕ) (t : Part) → held (set ts i t) ≡ set (held ts) i (container_in t)
held-set [] i t = refl
held-set (x ∷ ts) zero t = refl
held-set (x ∷ ts) (suc i) t = ap (λ all. container_in x ∷ all) (held-set ts i t)

-- ---- one table among them
kind_at : (ts : List Part) (i : ℕ) (old : Part) (k : TableKind) → slice_get (map kind_of (held ts)) i ≡ Some k → get_or ts i old ≡ old → kind_of (container_in old) ≡ k
kind_at [] i old k h e = cc
kind_at (x ∷ ts) zero old k h e = ap (λ (t : Part). kind_of (container_in t)) (sym e) ∙ same_Some (kind_of (container_in x)) k h
kind_at (x ∷ ts) (suc i) old k h e = kind_at ts i old k h e

-- a table that has a kind exists
exists : (ts : List Part) (all : Tables) (i : ℕ) (op : Op) → held ts ≡ all → i ≡ op.table → slice_get (map kind_of all) op.table ≡ Some (home op.kind) → i < length ts
exists ts all i op seen at fits =
    let within : op.table < length (map kind_of (held ts)) = slice_get_within _ _ _ (subst (λ cs. slice_get (map kind_of cs) op.table ≡ Some (home op.kind)) (sym seen) fits) in
    let kept : op.table < length ts = rw (length-map, length-map) at within in
    omega (arith, kept, at)

module _ (ts : List Part) (all : Tables) (i : ℕ) (op : Op) (seen : held ts ≡ all) (at : i ≡ op.table) (fits : slice_get (map kind_of all) op.table ≡ Some (home op.kind)) (old : Part) (is : get_or ts i old ≡ old) where
  holds : table (held ts) i ≡ container_in old
  holds = table-kept ts i old (exists ts all i op seen at fits) is

  pub kind_kept : kind_of (container_in old) ≡ home op.kind
  kind_kept = kind_at ts i old (home op.kind) (ap (slice_get (map kind_of (held ts))) at ∙ ap (λ cs. slice_get (map kind_of cs) op.table) seen ∙ fits) is

  -- the reply of the operation's table is that of the tables
  pub reply_kept : reply_on (container_in old) op ≡ reply all op
  unfolding reply
  reply_kept = sym (ap (λ c. reply_on c op) holds) ∙ ap (λ j. reply_on (table (held ts) j) op) at ∙ ap (λ cs. reply_on (table cs op.table) op) seen

  -- the table is written back as the operation leaves it
  pub written_step : (new : Part) → container_in new ≡ after_on (container_in old) op → held (set ts i new) ≡ step all op
  unfolding step
  written_step new after =
      held-set ts i new ∙ ap (set (held ts) i) (after ∙ sym (ap (λ c. after_on c op) holds))
      ∙ ap (λ j. set (held ts) j (after_on (table (held ts) j) op)) at ∙ ap (λ cs. set cs op.table (after_on (table cs op.table) op)) seen

  -- the table is written back as it was
  pub written_same : (new : Part) → container_in new ≡ container_in old → held (set ts i new) ≡ all
  written_same new same =
      let within : i < length ts = exists ts all i op seen at fits in
      let short : i < length (held ts) = rw length-map within in
      held-set ts i new ∙ ap (set (held ts) i) (same ∙ sym holds) ∙ set-table (held ts) i short ∙ seen

-- one more table
pub one_more : (ts : List Part) (t : Part) (all : Tables) → held ts ≡ all → held (ts ++ t ∷ []) ≡ all ++ container_in t ∷ []
one_more ts t all seen = map-append container_in ts (t ∷ []) ∙ ap (λ cs. cs ++ container_in t ∷ []) seen

-- ---- entries from a place on
pub drop_step : (es : List Pair) (i : ℕ) (e : Pair) → slice_get es i ≡ Some e → drop i es ≡ e ∷ drop (i + 1) es
drop_step [] i e h = cc
drop_step (x ∷ es) zero e h = ap (λ (y : Pair). y ∷ es) (same_Some x e h)
drop_step (x ∷ es) (suc i) e h = let n : suc i + 1 ≡ suc (i + 1) = omega arith in drop_step es i e h ∙ ap (λ (k : ℕ). e ∷ drop k (x ∷ es)) (sym n)

-- ---- what tables open with
kind_none : (kind : TableKind) → empty_of kind ≡ container_of kind []
kind_none Map = refl
kind_none Set = refl

-- no entry has entered
pub none_entered : (kind : TableKind) (es : List Pair) (i : ℕ) (c : Container) → c ≡ empty_of kind → length es ≤ i → c ≡ container_of kind (drop i es)
none_entered kind es i c e l = e ∙ kind_none kind ∙ sym (ap (container_of kind) (drop_all i es l))

entering : (kind : TableKind) (e : Pair) (es : List Pair) → with_entry e (container_of kind es) ≡ container_of kind (e ∷ es)
entering Map e es = refl
entering Set e es = refl

-- one more entry enters
pub entered : (kind : TableKind) (es : List Pair) (i : ℕ) (e : Pair) (c : Container) → c ≡ container_of kind (drop (i + 1) es) → slice_get es i ≡ Some e
    → with_entry e c ≡ container_of kind (drop i es)
entered kind es i e c filled at =
    ap (with_entry e) filled ∙ entering kind e (drop (i + 1) es) ∙ ap (container_of kind) (sym (drop_step es i e at))

-- one more table is filled
pub filled_more : (shape : List TableKind) (lists : List (List Pair)) (t : ℕ) → t < length shape
    → tables_of (take t shape) lists ++ container_of (slice_index_or shape t Map) (entries_of lists t) ∷ [] ≡ tables_of (take (t + 1) shape) lists
filled_more [] lists t h = absurd (omega (arith, h))
filled_more (k ∷ shape) [] zero h = refl
filled_more (k ∷ shape) (es ∷ lists) zero h = refl
filled_more (k ∷ shape) [] (suc t) h =
    let n : suc t + 1 ≡ suc (t + 1) = omega arith in
    ap (λ (us : Tables). container_of k [] ∷ us) (filled_more shape [] t (omega (arith, h)))
    ∙ ap (λ (m : ℕ). tables_of (take m (k ∷ shape)) []) (sym n)
filled_more (k ∷ shape) (es ∷ lists) (suc t) h =
    let n : suc t + 1 ≡ suc (t + 1) = omega arith in
    ap (λ (us : Tables). container_of k es ∷ us) (filled_more shape lists t (omega (arith, h)))
    ∙ ap (λ (m : ℕ). tables_of (take m (k ∷ shape)) (es ∷ lists)) (sym n)
