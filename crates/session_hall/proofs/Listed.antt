-- The entries with which a closed hall leaves its tables.
use Rattle.std.proofs.Common.{◌≡◌, ℕ, zero, suc, ◌+◌, ◌*◌, ◌-◌, ◌<◌, ◌≤◌, inl, inr, List, [], ◌∷◌, ◌++◌, length, length-append, length-drop, drop, get_or, Some, mul-le-mul, refl, sym, ◌∙◌, ap, subst, arith, le_refl}
use Rattle.std.specs.Prelude.{slice_get}
use Rattle.std.specs.List.{AllByRecursion}
use Rattle.std.proofs.lemmas.List.{length-take-le}
use Rattle.std.proofs.lemmas.Nat.{div-mul-add, mod-mul-add}
use Rattle.std.proofs.lemmas.Bool.{cases_lt}
use Rattle.std.proofs.lemmas.Option.{none-some}
use Rattle.session_values.specs.declared.kind.TableKind.{TableKind}
use Rattle.session_values.specs.Serial.{tables_before}
use Rattle.session_values.specs.Tables.{Container, Tables, kind_of, size_of, table}
use Rattle.session_values.proofs.Options.{in_drop, in_take}
use Rattle.session_journal.specs.Opening.{Pair, AreApart, entries_of, tables_of}
use Rattle.session_journal.proofs.Openings.{entries_few, opening_size}
use Rattle.session_journal.specs.declared.event.Event.{Event}
use Rattle.session_journal.specs.Script.{Meaning, room, session_of}
use Rattle.shard_tables.specs.Parts.{part}
use Rattle.admission_book.proofs.Keys.{keys_few}
use Rattle.turn_board.proofs.Rows.{get-within}
use Rattle.shard_tables.specs.declared.part.Part.{Part}
use Rattle.hall_rule.specs.Contents.{tables_after}
use Rattle.shard_tables.specs.Either.{entries_in, shard_view}
use Rattle.hall_rule.specs.Listing.{all_entries, all_sizes}
use Rattle.hall_rule.proofs.Shares.{kind_table}
use Rattle.hall_rule.proofs.Wholes.{AreParts, apart_all, sizes_whole, whole}
use Rattle.session_hall.specs.Closings.{ClosedView, IsDone}
use Rattle.session_hall.specs.Listings.{AreLeft, listed, shards_at}
use Rattle.session_hall.proofs.Giving.{opens}

-- ---- places
-- a table of which a shard stands below the end
below : (i tables n : ℕ) → i * n < tables * n → i < tables
below i tables n h = elim (cases_lt i tables) [
  | inl l ↦ l
  | inr g ↦ (let z : tables * n ≤ i * n = mul-le-mul g (le_refl n) in absurd (omega (arith, h, z)))
]

ends_within : (i tables n : ℕ) → i < tables → i * n + n ≤ tables * n
ends_within i tables n l =
    let z : suc i * n ≤ tables * n = mul-le-mul (up l) (le_refl n) in
    omega (arith, z)
  where
    up : i < tables → suc i ≤ tables
    up h = omega (arith, h)

module _ (n : ℕ) (c : Container) where
  parts_from : (a : ℕ) (ps : List Part) → ((j : ℕ) (p : Part) → slice_get ps j ≡ Some p → (shard_view p).container ≡ part n (a + j) c) → AreParts n c a ps
  parts_from a [] f = tt
  parts_from a (p ∷ ps) f =
      let z : a + 0 ≡ a = omega arith in (
        f 0 p refl ∙ ap (λ (i : ℕ). part n i c) z,
        parts_from (suc a) ps (λ j x e. f (suc j) x e ∙ ap (λ (i : ℕ). part n i c) (moved j)),
      )
    where
      moved : (j : ℕ) → a + suc j ≡ suc a + j
      moved j = omega arith

-- ---- the shards of a table
module _ (m : Meaning) (d : ClosedView) (k : IsDone m d) (i : ℕ) (low : i * d.shards < length d.parts) where
  abbrev n : ℕ
  n = d.shards

  abbrev left_table : Container
  left_table = table (tables_before (session_of m) m.requests) i

  low_here : i * n < length m.shape * n
  low_here = omega (arith, low, k.parts_are)

  in_shape : i < length m.shape
  in_shape = below i (length m.shape) n low_here

  pub shards_end : i * d.shards + d.shards ≤ length d.parts
  shards_end = omega (arith, ends_within i (length m.shape) n in_shape, k.parts_are)

  long : length (shards_at d i) ≡ n
  long = length-take-le n (drop (i * n) d.parts) (omega (arith, length-drop (i * n) d.parts, shards_end))

  parts : AreParts n left_table 0 (shards_at d i)
  parts = parts_from n left_table 0 (shards_at d i) (λ j p e.
      let t : (j < n) × (slice_get (drop (i * n) d.parts) j ≡ Some p) = in_take (drop (i * n) d.parts) n j p e in
      k.parts (i * n + j) p (in_drop d.parts (i * n) j p t.1)
      ∙ (λ x. part n (mod-mul-add i n j t.0 x) (table (tables_before (session_of m) m.requests) (div-mul-add i n j t.0 x)))
      ∙ ap (λ (a : ℕ). part n a left_table) (from_zero j))
    where
      from_zero : (j : ℕ) → j ≡ 0 + j
      from_zero j = omega arith

  kind_here : (kind : TableKind) → slice_get m.shape i ≡ Some kind → kind_of left_table ≡ kind
  kind_here kind e = ap (λ (ts : Tables). kind_of (table ts i)) (sym k.tables) ∙ kind_table m (opens m k.script_kept) d.journal i kind e

  its_kind : (kind : TableKind) × (slice_get m.shape i ≡ Some kind)
  its_kind = get-within m.shape i in_shape

  sizes_are : all_sizes (shards_at d i) ≡ size_of left_table
  sizes_are = sizes_whole n its_kind.0 left_table (kind_here its_kind.0 its_kind.1) (shards_at d i) parts long k.some_shards

  sizes_few : all_sizes (shards_at d i) ≤ length (entries_of m.opened i) + room m i
  sizes_few =
      let few : size_of (table (tables_after m k.book.journal) i) ≤ size_of (table m.opening i) + room m i = keys_few m k.book k.script_kept k.lawful i in
      let now : size_of (table (tables_after m k.book.journal) i) ≡ size_of left_table = ap (λ (J : List Event). size_of (table (tables_after m J) i)) (sym k.journal_is) ∙ ap (λ (ts : Tables). size_of (table ts i)) k.tables in
      let open_is : size_of (table m.opening i) ≡ size_of (table (tables_of m.shape m.opened) i) = ap (λ (ts : Tables). size_of (table ts i)) k.script_kept.opening in
      omega (arith, sizes_are, few, now, open_is, opening_size m.shape m.opened i)

  pub sizes_small : all_sizes (shards_at d i) < 4294967296
  sizes_small =
      let few : room m i ≤ 200000 = k.script_kept.few_adds i in
      omega (arith, sizes_few, few, entries_few m.opened i, k.script_kept.opened.few)

  pub are_left : (ps : List Part) → ps ≡ shards_at d i → (count : ℕ) → count ≡ length (all_entries ps) → count ≡ all_sizes ps → AllByRecursion (λ p. AreApart (entries_in p)) ps → AreLeft m i (listed d i)
  are_left ps is count counted sizes apart =
      let P : List Part → Type 0 = λ l. AllByRecursion (λ p. AreApart (entries_in p)) l in
      record {
        are = λ kind e. whole n kind left_table (kind_here kind e) (shards_at d i) parts long k.some_shards;
        apart = apart_all n its_kind.0 left_table (kind_here its_kind.0 its_kind.1) 0 (shards_at d i) parts (subst P is apart);
        few = omega (arith, counted, sizes, ap (λ (l : List Part). length (all_entries l)) is, ap all_sizes is, sizes_few);
      }

-- ---- one shard after another
shard_next : (ps : List Part) (i : ℕ) (p : Part) → i < length ps → p ≡ get_or ps i p → drop i ps ≡ p ∷ drop (i + 1) ps
shard_next [] i p l e = absurd (omega (arith, l))
shard_next (q ∷ ps) zero p l e = ap (λ (x : Part). x ∷ ps) (sym e)
shard_next (q ∷ ps) (suc i) p l e = let z : suc i + 1 ≡ suc (i + 1) = omega arith in shard_next ps i p (omega (arith, l)) e ∙ ap (λ (a : ℕ). p ∷ drop a (q ∷ ps)) (sym z)

module _ (ps : List Part) (i : ℕ) (p : Part) (l : i < length ps) (e : p ≡ get_or ps i p) where
  pub count_next : length (all_entries (drop i ps)) ≡ length (entries_in p) + length (all_entries (drop (i + 1) ps))
  count_next = ap (λ (qs : List Part). length (all_entries qs)) (shard_next ps i p l e) ∙ length-append (entries_in p) (all_entries (drop (i + 1) ps))

  pub sizes_next : all_sizes (drop i ps) ≡ size_of (shard_view p).container + all_sizes (drop (i + 1) ps)
  sizes_next = ap all_sizes (shard_next ps i p l e)

  pub apart_next : AreApart (entries_in p) → AllByRecursion (λ q. AreApart (entries_in q)) (drop (i + 1) ps) → AllByRecursion (λ q. AreApart (entries_in q)) (drop i ps)
  apart_next a rest = let P : List Part → Type 0 = λ qs. AllByRecursion (λ q. AreApart (entries_in q)) qs in subst P (sym (shard_next ps i p l e)) (a, rest)

  pub entry_here : (j : ℕ) (x : Pair) → slice_get (entries_in p) j ≡ Some x → slice_get (all_entries (drop i ps)) j ≡ Some x
  entry_here j x h = ap (λ (qs : List Part). slice_get (all_entries qs) j) (shard_next ps i p l e) ∙ in_front (entries_in p) (all_entries (drop (i + 1) ps)) j x h
    where
      in_front : {X : Type 0} (xs ys : List X) (j : ℕ) (x : X) → slice_get xs j ≡ Some x → slice_get (xs ++ ys) j ≡ Some x
      in_front [] ys j x h = absurd (none-some x h)
      in_front (y ∷ xs) ys zero x h = h
      in_front (y ∷ xs) ys (suc j) x h = in_front xs ys j x h

  pub entry_later : (j : ℕ) → length (entries_in p) ≤ j → slice_get (all_entries (drop i ps)) j ≡ slice_get (all_entries (drop (i + 1) ps)) (j - length (entries_in p))
  entry_later j h = ap (λ (qs : List Part). slice_get (all_entries qs) j) (shard_next ps i p l e) ∙ behind (entries_in p) (all_entries (drop (i + 1) ps)) j h
    where
      behind : {X : Type 0} (xs ys : List X) (j : ℕ) → length xs ≤ j → slice_get (xs ++ ys) j ≡ slice_get ys (j - length xs)
      behind [] ys j h = let z : j - 0 ≡ j = omega arith in ap (slice_get ys) (sym z)
      behind (y ∷ xs) ys zero h = absurd (omega (arith, h))
      behind (y ∷ xs) ys (suc j) h = let z : suc j - suc (length xs) ≡ j - length xs = omega arith in behind xs ys j (omega (arith, h)) ∙ ap (slice_get ys) (sym z)

pub no_more : (ps : List Part) (i : ℕ) → length ps ≤ i → all_entries (drop i ps) ≡ []
no_more [] zero h = refl
no_more [] (suc i) h = refl
no_more (p ∷ ps) zero h = absurd (omega (arith, h))
no_more (p ∷ ps) (suc i) h = no_more ps i (omega (arith, h))

pub none_sized : (ps : List Part) (i : ℕ) → length ps ≤ i → all_sizes (drop i ps) ≡ 0
none_sized [] zero h = refl
none_sized [] (suc i) h = refl
none_sized (p ∷ ps) zero h = absurd (omega (arith, h))
none_sized (p ∷ ps) (suc i) h = none_sized ps i (omega (arith, h))

pub none_apart : (ps : List Part) (i : ℕ) → length ps ≤ i → AllByRecursion (λ q. AreApart (entries_in q)) (drop i ps)
none_apart [] zero h = tt
none_apart [] (suc i) h = tt
none_apart (p ∷ ps) zero h = absurd (omega (arith, h))
none_apart (p ∷ ps) (suc i) h = none_apart ps i (omega (arith, h))
