-- A hall that opens over the shards of a closed one.
use Rattle.std.proofs.Common.{◌≡◌, ◌≢◌, ℕ, suc, ◌+◌, ◌*◌, ◌/◌, ◌%◌, ◌<◌, ◌≤◌, List, [], ◌∷◌, get_or, length, length-set, map, replicate, set, Some, mod-lt, refl, sym, ◌∙◌, ap, subst, arith}
use Rattle.std.specs.Prelude.{max, slice_get, slice_index}
use mathlib.Core.Logic.{dite}
use native.Mathlib.Decide.{ℕ_discrete}
use Rattle.std.proofs.lemmas.List.{length-map}
use Rattle.std.proofs.lemmas.Option.{same_Some, slice_get_within, slice_get-get_or}
use Rattle.session_values.specs.declared.kind.TableKind.{TableKind}
use Rattle.session_values.specs.Tables.{Container, Tables, size_of, table}
use Rattle.session_journal.specs.Script.{Meaning, IsScript, room}
use Rattle.session_journal.proofs.Serving.{opening_few}
use Rattle.shard_tables.specs.Parts.{part}
use Rattle.shard_tables.specs.Shards.{ShardView, grown_to, spare_of}
use Rattle.shard_tables.specs.declared.part.Part.{Part}
use Rattle.shard_tables.specs.Either.{shard_view}
use Rattle.shard_tables.proofs.PartSizes.{part_few}
use Rattle.admission_book.specs.Book.{opened}
use Rattle.admission_book.specs.Methods.{BookView}
use Rattle.turn_board.proofs.Rows.{get-set_same, get-set_other, get-within, map-get, map-read}
use Rattle.hall_rule.specs.declared.held.Held.{Held}
use Rattle.hall_rule.specs.declared.held.Held.TheVariants as value
use Rattle.hall_rule.specs.Contents.{Content, Register, Shard, shards_in, shards_of, share}
use Rattle.hall_rule.specs.Halls.{IsFresh, first_content}
use Rattle.hall_rule.specs.Shards.{content_of}
use Rattle.hall_rule.specs.Tie.{Tied}
use Rattle.hall_rule.proofs.Halls.{opened_tied}
use Rattle.session_hall.specs.Closings.{ClosedView, IsDone, IsTable}
use Rattle.std.specs.List.{AllByRecursion}
use Rattle.session_hall.specs.Openings.{FirstValues}
use Rattle.session_hall.specs.Reopenings.{AreKept, AreOpening, HaveMovedIn, HaveRoom, IsLeftAs, IsRoomFor, OpensOver, grown_room}
use Rattle.session_hall.proofs.Opened.{part_place, shards_are}

-- ---- one shard gets room
pub fits_still : (adds later : ℕ) (s : ShardView) → size_of s.container ≤ s.room → adds ≤ spare_of s → IsRoomFor adds later s s.room
fits_still adds later s within spare = record {
  enough = omega (arith, within, spare);
  still = λ _. refl;
  grown = λ small. absurd (omega (arith, spare, small));
}

pub fits_grown : (adds later : ℕ) (s new : ShardView) (wanted : ℕ) → spare_of s < adds → wanted ≡ grown_room (size_of s.container) (spare_of s) adds later → new ≡ grown_to wanted s → IsRoomFor adds later s new.room
fits_grown adds later s new wanted small is e =
    let room_is : new.room ≡ max wanted (size_of s.container) = ap (λ (v : ShardView). v.room) e in
    record {
      enough = omega (arith, room_is, is);
      still = λ spare. absurd (omega (arith, spare, small));
      grown = λ _. omega (arith, room_is, is);
    }

pub more_room : (adds later : ℕ) (s new : ShardView) → size_of s.container ≤ s.room → spare_of s < adds → IsRoomFor adds later s new.room → s.room ≤ new.room
more_room adds later s new within small f = omega (arith, within, small, f.enough)

-- ---- shards that get room, one after another
pub kept_first : (old : List Part) → AreKept old old
kept_first old = record { long = refl; each = λ j p e. (p, e, refl, omega arith) }

pub at_place : (old ps : List Part) (n : ℕ) (p : Part) → n < length ps → p ≡ get_or ps n p → ((j : ℕ) → n ≤ j → slice_get ps j ≡ slice_get old j) → (slice_get ps n ≡ Some p) × (slice_get old n ≡ Some p)
at_place old ps n p low e rest = let at : slice_get ps n ≡ Some p = slice_get-get_or ps n p low ∙ ap Some (sym e) in (at, sym (rest n (omega arith)) ∙ at)

module _ (old ps : List Part) (n : ℕ) (p new : Part) (low : n < length ps) (at : slice_get ps n ≡ Some p) where
  pub kept_more : (shard_view new).container ≡ (shard_view p).container → (shard_view p).room ≤ (shard_view new).room → AreKept old ps → AreKept old (set ps n new)
  kept_more same more k = record {
    long = length-set ps n new ∙ k.long;
    each = λ j x e. dite (ℕ_discrete j n)
        (λ (here : j ≡ n).
        let is : new ≡ x = same_Some new x (sym (get-set_same ps n new low) ∙ ap (λ (i : ℕ). slice_get (set ps n new) i) (sym here) ∙ e) in
        let q = k.each n p at in
        let room_is : (shard_view new).room ≡ (shard_view x).room = ap (λ (y : Part). (shard_view y).room) is in
        (q.0, ap (λ (i : ℕ). slice_get old i) here ∙ q.1, ap (λ (y : Part). (shard_view y).container) (sym is) ∙ same ∙ q.2, omega (arith, q.3, more, room_is)))
        (λ (ne : j ≢ n). k.each j x (sym (get-set_other ps n j new ne) ∙ e));
  }

  pub rest_more : ((j : ℕ) → n ≤ j → slice_get ps j ≡ slice_get old j) → (j : ℕ) → n + 1 ≤ j → slice_get (set ps n new) j ≡ slice_get old j
  rest_more rest j far = get-set_other ps n j new (λ e. absurd (omega arith)) ∙ rest j (omega (arith, far))

  module _ (m : Meaning) (later : List ℕ) (shards : ℕ) (was : slice_get old n ≡ Some p) (fits : IsRoomFor (room m (n / shards)) (slice_index later (n / shards)) (shard_view p) (shard_view new).room) where
    pub room_more : ((j : ℕ) (x q : Part) → j < n → slice_get ps j ≡ Some x → slice_get old j ≡ Some q → IsRoomFor (room m (j / shards)) (slice_index later (j / shards)) (shard_view q) (shard_view x).room)
        → (j : ℕ) (x q : Part) → j < n + 1 → slice_get (set ps n new) j ≡ Some x → slice_get old j ≡ Some q → IsRoomFor (room m (j / shards)) (slice_index later (j / shards)) (shard_view q) (shard_view x).room
    room_more below j x q near e f = dite (ℕ_discrete j n)
        (λ (here : j ≡ n).
        let is : new ≡ x = same_Some new x (sym (get-set_same ps n new low) ∙ ap (λ (i : ℕ). slice_get (set ps n new) i) (sym here) ∙ e) in
        let same : p ≡ q = same_Some p q (sym was ∙ ap (λ (i : ℕ). slice_get old i) (sym here) ∙ f) in
        let X : Part → Type 0 = λ y. IsRoomFor (room m (j / shards)) (slice_index later (j / shards)) (shard_view q) (shard_view y).room in
        let Q : Part → Type 0 = λ y. IsRoomFor (room m (j / shards)) (slice_index later (j / shards)) (shard_view y) (shard_view new).room in
        let N : ℕ → Type 0 = λ i. IsRoomFor (room m (i / shards)) (slice_index later (i / shards)) (shard_view p) (shard_view new).room in
        subst X is (subst Q same (subst N (sym here) fits)))
        (λ (ne : j ≢ n). below j x q (omega arith) (sym (get-set_other ps n j new ne) ∙ e) f)

-- ---- a part has no more keys than its table
pub few_keys : (m : Meaning) (shards : ℕ) (parts : List Part) (j : ℕ) (q : Part) → IsScript m → AreOpening m shards parts → 0 < shards → slice_get parts j ≡ Some q → size_of (shard_view q).container + room m (j / shards) ≤ 1200000
few_keys m shards parts j q s holds some at =
    let table_few = opening_few m s (j / shards) in
    let adds_few : room m (j / shards) ≤ 200000 = s.few_adds (j / shards) in
    let here = ap size_of (holds j q at) in
    let few = part_few shards (j % shards) (table m.opening (j / shards)) (mod-lt j some) in
    omega (arith, table_few, adds_few, here, few)

-- ---- what a closed hall left
pub opening_parts : (m : Meaning) (d : ClosedView) → OpensOver m d → AreOpening m d.shards d.parts
opening_parts m d o j p at = o.done.parts j p at ∙ ap (λ (ts : Tables). part d.shards (j % d.shards) (table ts (j / d.shards))) (sym o.opening_is)

pub many_parts : (m : Meaning) (d : ClosedView) → OpensOver m d → length d.parts ≡ length m.shape * d.shards
many_parts m d o = o.done.parts_are ∙ ap (λ (l : List TableKind). length l * d.shards) o.shape_is

-- the closed hall with parts that were given room
abbrev pub with_parts : ClosedView → List Part → ClosedView
with_parts d new = record { journal = d.journal; replies = d.replies; parts = new; shards = d.shards; callers = d.callers }

module _ (d : ClosedView) (new : List Part) (same : AreKept d.parts new) where
  pub left_done : (m : Meaning) → IsDone m d → IsDone m (with_parts d new)
  left_done m k = record {
    script_kept = k.script_kept;
    book = k.book;
    journal_is = k.journal_is;
    callers_are = k.callers_are;
    lawful = k.lawful;
    told = k.told;
    all_begun = k.all_begun;
    all_ended = k.all_ended;
    replies = k.replies;
    tables = k.tables;
    some_shards = k.some_shards;
    parts_are = same.long ∙ k.parts_are;
    parts = λ j x e. let q = same.each j x e in q.2 ∙ k.parts j q.0 q.1;
  }

  pub left_opens : (m : Meaning) → OpensOver m d → OpensOver m (with_parts d new)
  left_opens m o = record { before = o.before; done = left_done o.before o.done; shape_is = o.shape_is; opening_is = o.opening_is }

  pub left_as : IsLeftAs d (with_parts d new)
  left_as = record { journal = refl; replies = refl; shards = refl; callers = refl; parts = same }

-- ---- the shards among the values
pub are_tables : (S : Type 0) (parts : List Part) → AllByRecursion (IsTable {S = S}) (map value.Table parts)
are_tables S [] = tt
are_tables S (p ∷ ps) = (tt, are_tables S ps)

part_in : {S : Type 0} → Held S → List Part → List Part
part_in (value.Table p) l = p ∷ l
part_in (value.Register b) l = l

parts_in : {S : Type 0} → List (Held S) → List Part
parts_in [] = []
parts_in (v ∷ vs) = part_in v (parts_in vs)

parts_are : (S : Type 0) (parts : List Part) → parts_in {S = S} (map value.Table parts) ≡ parts
unfolding parts_in part_in
parts_are S [] = refl
parts_are S (p ∷ ps) = ap (λ (l : List Part). p ∷ l) (parts_are S ps)

pub same_parts : (S : Type 0) (xs ys : List Part) → ◌≡◌ {A = List (Held S)} (map value.Table xs) (map value.Table ys) → xs ≡ ys
same_parts S xs ys e = sym (parts_are S xs) ∙ ap parts_in e ∙ parts_are S ys

-- ---- the values of the turns
module _ {S : Type 0} (meaning : S → Meaning) (script : S) (shards callers : ℕ) (later : List ℕ) (b : BookView S) (values : List (Held S))
    (script_is : b.script ≡ script) (book_is : b.book ≡ opened (meaning script).requests callers) (script_here : IsScript (meaning script))
    (old new : List Part) (holds : AreOpening (meaning script) shards old) (some : 0 < shards) (long : length old ≡ length (meaning script).shape * shards)
    (same : AreKept old new) (fits : HaveRoom (meaning script) later shards old new)
    (values_are : values ≡ value.Register b ∷ map value.Table new) where
  abbrev m : Meaning
  m = meaning script

  abbrev shard_contents : List (Content S)
  shard_contents = map content_of (map value.Table new)

  contents_are : map content_of values ≡ first_content meaning script callers ∷ shard_contents
  contents_are = ap (map content_of) values_are ∙ (λ i. Register (script_is i) (book_is i) ∷ shard_contents)

  as_many : length shard_contents ≡ length m.shape * shards
  as_many = length-map (map value.Table new) content_of ∙ length-map new value.Table ∙ same.long ∙ long

  fresh : (j : ℕ) (x : Content S) → slice_get shard_contents j ≡ Some x → IsFresh (meaning script) (suc (length shard_contents)) j x
  fresh j x at =
      let v : (v : Held S) × (slice_get (map value.Table new) j ≡ Some v) × (content_of v ≡ x) = map-read content_of (map value.Table new) j x at in
      let p : (p : Part) × (slice_get new j ≡ Some p) × (value.Table p ≡ v.0) = map-read value.Table new j v.0 v.1 in
      let q = same.each j p.0 p.1 in
      let room_is = fits j p.0 q.0 p.1 q.1 in
      let turns : ℕ = suc (length shard_contents) in
      let low : j < length m.shape * shards = (let l : j < length new = slice_get_within new j p.0 p.1 in omega (arith, l, same.long, long)) in
      let table_low : j / shards < length m.shape = part_place j (length m.shape) shards some low in
      let sh : shards_in m turns ≡ shards = ap (λ (a : ℕ). shards_of (suc a) (length m.shape)) as_many ∙ shards_are (length m.shape) shards (omega (arith, table_low)) in
      let container_is : (shard_view p.0).container ≡ share m turns [] j =
      q.2 ∙ holds j q.0 q.1 ∙ sym (ap (λ (a : ℕ). part a (j % a) (table m.opening (j / a))) sh) in
      let space : room m (j / shards_in m turns) ≡ room m (j / shards) = ap (λ (a : ℕ). room m (j / a)) sh in
      record {
        room = (shard_view p.0).room;
        is = sym v.2 ∙ ap content_of (sym p.2) ∙ ap (λ (d : Container). Shard d (shard_view p.0).room) container_is;
        enough = omega (arith, ap size_of (sym q.2 ∙ container_is), space, room_is.enough);
      }

  pub moved_values : FirstValues meaning script shards callers values
  moved_values =
      let P : List (Content S) → Type 0 = λ l. Tied meaning l (replicate callers (first_content meaning script callers)) in
      record {
        script_kept = script_here;
        long = ap length values_are ∙ ap suc (length-map new value.Table ∙ same.long ∙ long) ∙ one_more (length m.shape * shards);
        first = ap (λ (l : List (Content S)). slice_get l 0) contents_are;
        tied = subst P (sym contents_are) (opened_tied meaning script callers shard_contents fresh);
      }
    where
      one_more : (a : ℕ) → suc a ≡ 1 + a
      one_more a = omega arith

  pub moved_in : HaveMovedIn m later old shards (map content_of values)
  moved_in j q at =
      let near : j < length new = (let l : j < length old = slice_get_within old j q at in omega (arith, l, same.long)) in
      let p : (p : Part) × (slice_get new j ≡ Some p) = get-within new j near in
      let k = same.each j p.0 p.1 in
      let is : k.0 ≡ q = same_Some k.0 q (sym k.1 ∙ at) in
      let holds_is : (shard_view p.0).container ≡ (shard_view q).container = k.2 ∙ ap (λ (y : Part). (shard_view y).container) is in (
        (shard_view p.0).room,
        ap (λ (l : List (Content S)). slice_get l (suc j)) contents_are ∙ map-get content_of (map value.Table new) j (value.Table p.0) (map-get value.Table new j p.0 p.1) ∙ ap (λ (d : Container). Some (let x : Content S = Shard d (shard_view p.0).room in x)) holds_is,
        fits j p.0 q p.1 at,
      )
