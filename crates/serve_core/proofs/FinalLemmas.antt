-- The final tables of a closed hall: their entries, and that they can be written.
use Rattle.std.proofs.Common.{◌≡◌, ℕ, zero, suc, ◌+◌, ◌*◌, ◌<◌, ◌≤◌, ◌⊎◌, inl, inr, List, [], ◌∷◌, length, map as map_list, Some, slice_get, refl, sym, ◌∙◌, ap, subst, arith}
use Rattle.std.proofs.lemmas.Option.{slice_get_within}
use Rattle.std.proofs.lemmas.Nat.{mul-add-lt}
use native.Mathlib.Nat.{eq_of_mul-eq-mul_right}
use Rattle.std.proofs.Math.ListN.{set as set_at}
use Rattle.session_journal.specs.Opening.{container_of, entries_of, tables_of}
use Rattle.session_journal.proofs.Openings.{opening_kinds}
use Rattle.session_values.specs.Serial.{tables_before}
use Rattle.session_values.specs.Tables.{Tables, kind_of, table}
use Rattle.session_values.specs.declared.kind.TableKind.{TableKind}
use Rattle.session_journal.specs.Script.{Meaning, session_of}
use Rattle.syntax_trees.specs.declared.file.TableDecl.{TableDecl}
use Rattle.hall_rule.proofs.Shares.{length-after}
use Rattle.session_hall.specs.Closings.{ClosedView, IsDone}
use Rattle.session_hall.specs.Listings.{listed}
use Rattle.table_lines.specs.Dumped.{CanDump, CanDumpAll, CanDumpEach, HaveRoom, dump_text}
use Rattle.serve_core.specs.Serving.{AreFinal, final_lists, lists_from}

module _ (d : ClosedView) where
  lists_long : (i n : ℕ) → length (lists_from d i n) ≡ n
  lists_long i zero = refl
  lists_long i (suc n) = ap suc (lists_long (i + 1) n)

  list_at : (i n t : ℕ) → t < n → entries_of (lists_from d i n) t ≡ listed d (i + t)
  list_at i zero t h = absurd (omega (arith, h))
  list_at i (suc n) zero h = ap (listed d) (let e : i ≡ i + 0 = omega arith in e)
  list_at i (suc n) (suc t) h = list_at (i + 1) n t (omega (arith, h)) ∙ ap (listed d) (let e : i + 1 + t ≡ i + suc t = omega arith in e)

  pub final_long : (n : ℕ) → length (final_lists d n) ≡ n
  final_long n = lists_long 0 n

  pub final_at : (n t : ℕ) → t < n → entries_of (final_lists d n) t ≡ listed d t
  final_at n t h = list_at 0 n t h ∙ ap (listed d) (let e : 0 + t ≡ t = omega arith in e)

  -- what holds of each table's entries
  pub each_room : (room i n : ℕ) → ((t : ℕ) → t < n → length (listed d (i + t)) ≤ room) → HaveRoom room (lists_from d i n)
  each_room room i zero h = tt
  each_room room i (suc n) h = (
    subst (λ (k : ℕ). length (listed d k) ≤ room) (let e : i + 0 ≡ i = omega arith in e) (h 0 (omega arith)),
    each_room room (i + 1) n (λ t lt. subst (λ (k : ℕ). length (listed d k) ≤ room) (let e : i + suc t ≡ i + 1 + t = omega arith in e) (h (suc t) (omega (arith, lt)))),
  )

  pub each_dumped : (names : List (List ℕ)) (i : ℕ) (ts : List TableDecl) → ((t : ℕ) (kind : TableKind) → slice_get (map_list (λ (x : TableDecl). x.kind) ts) t ≡ Some kind → CanDump names kind (listed d (i + t))) → CanDumpEach names ts (lists_from d i (length ts))
  each_dumped names i [] h = tt
  each_dumped names i (t ∷ ts) h = (
    subst (λ (k : ℕ). CanDump names t.kind (listed d k)) (let e : i + 0 ≡ i = omega arith in e) (h 0 t.kind refl),
    each_dumped names (i + 1) ts (λ x kind at. subst (λ (k : ℕ). CanDump names kind (listed d k)) (let e : i + suc x ≡ i + 1 + x = omega arith in e) (h (suc x) kind at)),
  )

  -- the tables are those that these entries make
  same_tables : (i : ℕ) (shape : List TableKind) (ts : Tables) → length ts ≡ length shape → ((t : ℕ) (kind : TableKind) → slice_get shape t ≡ Some kind → container_of kind (listed d (i + t)) ≡ table ts t) → tables_of shape (lists_from d i (length shape)) ≡ ts
  same_tables i [] [] l h = refl
  same_tables i [] (c ∷ ts) l h = absurd (omega (arith, l))
  same_tables i (k ∷ shape) [] l h = absurd (omega (arith, l))
  same_tables i (k ∷ shape) (c ∷ ts) l h =
      let first : container_of k (listed d i) ≡ c = ap (λ (x : ℕ). container_of k (listed d x)) (let e : i ≡ i + 0 = omega arith in e) ∙ h 0 k refl in
      let rest : tables_of shape (lists_from d (i + 1) (length shape)) ≡ ts = same_tables (i + 1) shape ts (omega (arith, l)) (λ t kind at. ap (λ (x : ℕ). container_of kind (listed d x)) (let e : i + 1 + t ≡ i + suc t = omega arith in e) ∙ h (suc t) kind at) in
      λ j. first j ∷ rest j

  module _ (m : Meaning) (done : IsDone m d) where
    pub tables_long : length (tables_before (session_of m) m.requests) ≡ length m.shape
    tables_long =
        ap (λ (ts : Tables). length ts) (sym done.tables)
        ∙ length-after m (ap (map_list kind_of) done.script_kept.opening ∙ opening_kinds m.shape m.opened) d.journal

    pub final_tables : AreFinal d (length m.shape) → tables_of m.shape (final_lists d (length m.shape)) ≡ tables_before (session_of m) m.requests
    final_tables left = same_tables 0 m.shape (tables_before (session_of m) m.requests) tables_long
        (λ t kind at. ap (λ (x : ℕ). container_of kind (listed d x)) (let e : 0 + t ≡ t = omega arith in e) ∙ (left m done t (slice_get_within m.shape t kind at)).are kind at)

-- ---- counting table by table
before_or_at : (i t : ℕ) → t < i + 1 → (t < i) ⊎ (i ≡ t)
before_or_at i t lt = grind arith

-- what holds of the first i, and of the next
pub one_more : (P : ℕ → Type 0) (i : ℕ) → ((t : ℕ) → t < i → P t) → P i → (t : ℕ) → t < i + 1 → P t
one_more P i h p t lt = elim (before_or_at i t lt) [
  | inl l ↦ h t l
  | inr e ↦ subst P e p
]

-- a list that has what f gives up to a place, and then there too
pub counted_more : (xs : List ℕ) (i n : ℕ) (f : ℕ → ℕ) → i < length xs → n ≡ f i → ((t : ℕ) → t < i → slice_get xs t ≡ Some (f t)) → (t : ℕ) → t < i + 1 → slice_get (set_at xs i n) t ≡ Some (f t)
counted_more [] i n f l e h t lt = absurd (omega (arith, l))
counted_more (x ∷ xs) zero n f l e h zero lt = ap (λ (k : ℕ). Some k) e
counted_more (x ∷ xs) zero n f l e h (suc t) lt = absurd (omega (arith, lt))
counted_more (x ∷ xs) (suc i) n f l e h zero lt = h 0 (omega arith)
counted_more (x ∷ xs) (suc i) n f l e h (suc t) lt = counted_more xs i n (λ (k : ℕ). f (suc k)) (omega (arith, l)) e (λ k b. h (suc k) (omega (arith, b))) t (omega (arith, lt))

-- a bound that rises with what is bounded
pub most_more : (f : ℕ → ℕ) (i most next : ℕ) → most ≤ next → f i ≤ next → ((t : ℕ) → t < i → f t ≤ most) → (t : ℕ) → t < i + 1 → f t ≤ next
most_more f i most next up here h = one_more (λ (t : ℕ). f t ≤ next) i (λ t lt. (let b = h t lt in omega (arith, b, up))) here

-- ---- places of a table's shards
-- the first shard of one of n tables, of s shards each, is there
pub shard_within : (t n s l : ℕ) → t < n → 0 < s → l ≡ n * s → t * s < l
shard_within t n s l lt some is = omega (arith, is, mul-add-lt t s 0 n lt some)

-- a script that such a hall served has so many tables
pub tables_counted : (m : Meaning) (d : ClosedView) (n : ℕ) → IsDone m d → 0 < d.shards → length d.parts ≡ n * d.shards → length m.shape ≡ n
tables_counted m d n done some parts = eq_of_mul-eq-mul_right d.shards some (length m.shape) n (sym done.parts_are ∙ parts)

-- ---- the lists of a hall, by another name of the hall, of the declarations and of their number
module _ (names : List (List ℕ)) (ts decls : List TableDecl) (d e : ClosedView) (n : ℕ) (is : decls ≡ ts) (same : e ≡ d) (long : n ≡ length ts) where
  lists_same : final_lists e n ≡ final_lists d (length ts)
  lists_same = ap (λ (x : ClosedView). final_lists x n) same ∙ ap (final_lists d) long

  pub dumped_same : dump_text names decls (final_lists e n) ≡ dump_text names ts (final_lists d (length ts))
  dumped_same = ap (λ (xs : List TableDecl). dump_text names xs (final_lists e n)) is ∙ ap (dump_text names ts) lists_same

  pub can_dump : CanDumpAll names ts (final_lists d (length ts)) → CanDumpAll names decls (final_lists e n)
  can_dump h = subst (λ (xs : List TableDecl). CanDumpAll names xs (final_lists e n)) (sym is) (subst (CanDumpAll names ts) (sym lists_same) h)

  pub have_room : (room : ℕ) → HaveRoom room (final_lists d (length ts)) → HaveRoom room (final_lists e n)
  have_room room h = subst (HaveRoom room) (sym lists_same) h
