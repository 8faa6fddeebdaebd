-- The kept tables, one of them read or written back.
use Rattle.std.proofs.Common.{◌≡◌, ℕ, zero, suc, ◌+◌, ◌<◌, length, get_or, arith, List, [], ◌∷◌, ◌++◌, map, Some, refl, sym, ap, ◌∙◌, subst, slice_get, take}
use Rattle.std.proofs.Math.ListN.{set}
use Rattle.std.proofs.lemmas.List.{length-map, map-append, take_more}
use Rattle.std.proofs.lemmas.Option.{slice_get_within}
use Rattle.session_values.specs.declared.kind.TableKind.{TableKind}
use Rattle.session_values.specs.declared.op.Op.{Op}
use Rattle.session_values.specs.Kinds.{home}
use Rattle.session_values.specs.Tables.{Tables, start, empty_of, table, reply, reply_on, step, after_on, kind_of}
use Rattle.session_values.proofs.KindLemmas.{set-table}
use Rattle.plain_tables.specs.declared.table.Table.{Table}
use Rattle.plain_tables.specs.Containers.{container_of, tables_of}

-- one more empty table
start-push : (shape : List TableKind) (kind : TableKind) → start (shape ++ kind ∷ []) ≡ start shape ++ empty_of kind ∷ []
start-push [] kind = refl
start-push (k ∷ shape) kind = ap (λ ts. empty_of k ∷ ts) (start-push shape kind)

pub one_more : (ts : List Table) (t : Table) (shape : List TableKind) (i : ℕ) (d : TableKind) → i < length shape
    → tables_of ts ≡ start (take i shape) → container_of t ≡ empty_of (get_or shape i d) → tables_of (ts ++ t ∷ []) ≡ start (take (i + 1) shape)
one_more ts t shape i d h so_far empty =
    map-append container_of ts (t ∷ []) ∙ ap (λ all. all ++ container_of t ∷ []) so_far ∙ ap (λ c. start (take i shape) ++ c ∷ []) empty
    ∙ sym (start-push (take i shape) (get_or shape i d)) ∙ ap start (sym (take_more shape i d h))

-- the container of a kept table
table-kept : (ts : List Table) (i : ℕ) (t : Table) → i < length ts → get_or ts i t ≡ t → table (tables_of ts) i ≡ container_of t
table-kept [] i t h e = absurd (omega (arith, h))
table-kept (x ∷ ts) zero t h e = ap container_of e
table-kept (x ∷ ts) (suc i) t h e = table-kept ts i t (omega (arith, h)) e

tables_of-set : (ts : List Table) (i : ℕ) (t : Table) → tables_of (set ts i t) ≡ set (tables_of ts) i (container_of t)
tables_of-set [] i t = refl
tables_of-set (x ∷ ts) zero t = refl
tables_of-set (x ∷ ts) (suc i) t = ap (λ all. container_of x ∷ all) (tables_of-set ts i t)

-- a table that has a kind exists
exists : (ts : List Table) (all : Tables) (i : ℕ) (op : Op) → tables_of ts ≡ all → i ≡ op.table → slice_get (map kind_of all) op.table ≡ Some (home op.kind) → i < length ts
exists ts all i op seen at fits =
    let within : op.table < length (map kind_of (tables_of ts)) = slice_get_within _ _ _ (subst (λ cs. slice_get (map kind_of cs) op.table ≡ Some (home op.kind)) (sym seen) fits) in
    let kept : op.table < length ts = rw (length-map, length-map) at within in
    omega (arith, kept, at)

module _ (ts : List Table) (all : Tables) (i : ℕ) (op : Op) (seen : tables_of ts ≡ all) (at : i ≡ op.table) (fits : slice_get (map kind_of all) op.table ≡ Some (home op.kind)) (old : Table) (is : get_or ts i old ≡ old) where
  held : table (tables_of ts) i ≡ container_of old
  held = table-kept ts i old (exists ts all i op seen at fits) is

  -- the reply of the operation's table is that of the tables
  pub reply_kept : reply_on (container_of old) op ≡ reply all op
  unfolding reply
  reply_kept = sym (ap (λ c. reply_on c op) held) ∙ ap (λ j. reply_on (table (tables_of ts) j) op) at ∙ ap (λ cs. reply_on (table cs op.table) op) seen

  -- the table is written back as the operation leaves it
  pub written_step : (new : Table) → container_of new ≡ after_on (container_of old) op → tables_of (set ts i new) ≡ step all op
  unfolding step
  written_step new after =
      tables_of-set ts i new ∙ ap (set (tables_of ts) i) (after ∙ sym (ap (λ c. after_on c op) held))
      ∙ ap (λ j. set (tables_of ts) j (after_on (table (tables_of ts) j) op)) at ∙ ap (λ cs. set cs op.table (after_on (table cs op.table) op)) seen

  -- the table is written back as it was
  pub written_same : (new : Table) → container_of new ≡ container_of old → tables_of (set ts i new) ≡ all
  written_same new same =
      let within : i < length ts = exists ts all i op seen at fits in
      let short : i < length (tables_of ts) = rw length-map within in
      tables_of-set ts i new ∙ ap (set (tables_of ts) i) (same ∙ sym held) ∙ set-table (tables_of ts) i short ∙ seen
