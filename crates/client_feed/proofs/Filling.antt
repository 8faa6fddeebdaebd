-- Tables that are filled one after another.
use Rattle.std.proofs.Common.{◌≡◌, ℕ, ◌+◌, ◌*◌, ◌<◌, ◌≤◌, ◌⊎◌, List, [], length, Some, sym, ap, ◌∙◌, subst, arith}
use Rattle.std.specs.Prelude.{slice_get}
use Rattle.std.specs.List.{AllByRecursion}
use Rattle.std.proofs.lemmas.Nat.{mul-add-lt}
use Rattle.std.proofs.lemmas.Option.{slice_get_within}
use Rattle.session_values.specs.declared.kind.TableKind.{TableKind}
use Rattle.session_values.specs.declared.kind.TableKind.TheVariants.{Set}
use Rattle.session_values.specs.declared.value.Value.TheVariants.{Nil}
use Rattle.session_values.specs.Sums.{sum_below}
use Rattle.session_values.specs.Tables.{size_of, table}
use Rattle.session_values.proofs.Sums.{sum_alike}
use Rattle.session_values.specs.Opening.{AreKept, IsOpening, Pair, count_all, entries_of, container_of, tables_of}
use Rattle.session_values.proofs.KeptLemmas.{is_opening}
use Rattle.session_values.proofs.Options.{stands}
use Rattle.session_hall.specs.Script.{Meaning}
use Rattle.session_hall.specs.Closings.{ClosedView, IsDone}
use Rattle.session_hall.specs.Listings.{AreLeft, listed}
use Rattle.client_feed.specs.Reopening.{CanReopen, Reopens, final_of}
use Rattle.client_feed.proofs.TableLists.{final_long, have_nil, length_left, listed_nil, same_tables}

-- ---- all tables
-- those so far have their entries, and the others none
pub record AreFilled (d : ClosedView) (shape : List TableKind) (n : ℕ) (lists : List (List Pair)) : Type 0 where
  pub many : length lists ≡ length shape
  pub filled : (t : ℕ) → t < n → entries_of lists t ≡ listed d t
  pub empty : (t : ℕ) → n ≤ t → entries_of lists t ≡ []
  pub count : count_all lists ≡ sum_below n (λ t. length (listed d t))
  pub left : (t : ℕ) → t < n → (m : Meaning) → IsDone m d → AreLeft m t (listed d t)

pub lt_or_same : (t n : ℕ) → t < n + 1 → (t < n) ⊎ (t ≡ n)
lt_or_same t n l = grind arith

module _ (d : ClosedView) (shape : List TableKind) where
  module _ (can : CanReopen shape d) where
    abbrev m : Meaning
    m = can.script

    pub kind_at : (t : ℕ) → t < length shape → (kind : TableKind) × (slice_get m.shape t ≡ Some kind)
    kind_at t l = stands m.shape t (let e : length m.shape ≡ length shape = ap (λ (s : List TableKind). length s) can.shape_is in omega (arith, e, l))

    -- the shards of each table are there
    pub shards_there : (t : ℕ) → t < length shape → t * d.shards < length d.parts
    shards_there t l =
        let e : length m.shape ≡ length shape = ap (λ (s : List TableKind). length s) can.shape_is in
        let many = can.done.parts_are in
        omega (arith, mul-add-lt t d.shards 0 (length m.shape) (omega (arith, e, l)) can.done.some_shards, many)

    long_is : (t : ℕ) → t < length shape → AreLeft m t (listed d t) → length (listed d t) ≡ size_of (table (final_of m) t)
    long_is t l left = let k = kind_at t l in length_left m d can.done t k.0 k.1 left

    -- they are few enough
    pub few_all : (lists : List (List Pair)) → AreFilled d shape (length shape) lists → count_all lists ≤ 1000000
    few_all lists all =
        let many = all.count in
        let same : sum_below (length shape) (λ t. length (listed d t)) ≡ sum_below (length shape) (λ t. size_of (table (final_of m) t)) = sum_alike (length shape) (λ t. length (listed d t)) (λ t. size_of (table (final_of m) t)) (λ t u. long_is t u (all.left t u m can.done)) in
        let few = can.few in
        omega (arith, many, same, few)

    module _ (lists : List (List Pair)) (all : AreFilled d shape (length shape) lists) where
      at_place : (t : ℕ) (kind : TableKind) → slice_get shape t ≡ Some kind → t < length shape
      at_place t kind e = slice_get_within shape t kind e

      pub opens_again : AreKept lists → IsOpening shape lists
      opens_again kept = is_opening shape lists kept (have_nil shape lists all.many (λ t e.
          subst (λ (es : List Pair). AllByRecursion (λ (x : Pair). x.1 ≡ Nil) es) (sym (all.filled t (at_place t Set e)))
          (listed_nil m d can.done t (ap (λ (s : List TableKind). slice_get s t) can.shape_is ∙ e))))

      same_for : (k : Meaning) → IsDone k d → k.shape ≡ shape → tables_of shape lists ≡ final_of k
      same_for k done is = same_tables shape lists (final_of k) all.many (final_long k d done ∙ ap (λ (s : List TableKind). length s) is) (λ t kind e.
          ap (container_of kind) (all.filled t (at_place t kind e))
          ∙ (all.left t (at_place t kind e) k done).are kind (ap (λ (s : List TableKind). slice_get s t) is ∙ e))

      pub reopens : Reopens d shape lists
      reopens = record { many = all.many; each = all.filled; same = same_for }
