-- A hall that opens over the shards of a closed one.
use Rattle.std.specs.Prelude.{◌≡◌, ℕ, suc, ◌+◌, ◌*◌, ◌<◌, ◌≤◌, ◌/◌, ◌%◌, max, min}
use Rattle.std.specs.Prelude.{List, Some, length, slice_get, slice_index}
use Rattle.session_values.specs.Limits.{max_session_calls}
use Rattle.session_values.specs.Serial.{tables_before}
use Rattle.session_values.specs.Tables.{size_of, table}
use Rattle.session_journal.specs.Script.{Meaning, room as adds_of, session_of}
use Rattle.shard_tables.specs.Parts.{part}
use Rattle.shard_tables.specs.declared.part.Part.{Part}
use Rattle.shard_tables.specs.Either.{shard_view}
use Rattle.shard_tables.specs.Shards.{ShardView, spare_of}
use Rattle.hall_rule.specs.Contents.{Content, Shard}
use Rattle.session_hall.specs.Closings.{ClosedView, IsDone}

-- The tickets open with the tables that a closed hall left: those after the tickets of its own
-- script, over tables of the same kinds, were served one at a time.
pub record OpensOver (m : Meaning) (d : ClosedView) : Type 0 where
  pub before : Meaning
  pub done : IsDone before d
  pub shape_is : before.shape ≡ m.shape
  pub opening_is : m.opening ≡ tables_before (session_of before) before.requests

-- For how many keys a shard gets room that has `keys` keys and room for `spare` more, where that is
-- too little: `adds` more may be added next and `later` in all. It is twice its room, but no more
-- than for all that may be added, and enough for the next.
abbrev pub grown_room : ℕ → ℕ → ℕ → ℕ → ℕ
grown_room keys spare adds later =
    max (min (2 * (keys + spare)) (keys + min later max_session_calls)) (keys + adds)

-- for how many keys a shard has room when a hall has opened over it: for as many as it had where
-- that is enough for the keys that may be added next, and else it has grown
pub record IsRoomFor (adds later : ℕ) (old : ShardView) (room : ℕ) : Type 0 where
  pub enough : size_of old.container + adds ≤ room
  pub still : adds ≤ spare_of old → room ≡ old.room
  pub grown : spare_of old < adds
      → room ≡ grown_room (size_of old.container) (spare_of old) adds later

-- the contents of a hall's turns, as it opens over the parts that a closed one left, so many for
-- each table: behind the book each shard holds what it held, and has room
abbrev pub HaveMovedIn : {S : Type 0} → Meaning → List ℕ → List Part → ℕ → List (Content S)
    → Type 0
HaveMovedIn {S} m later parts shards contents = (j : ℕ) (q : Part) → slice_get parts j ≡ Some q
    → (room : ℕ) × (slice_get contents (suc j) ≡ Some (Shard (shard_view q).container room))
    × IsRoomFor (adds_of m (j / shards)) (slice_index later (j / shards)) (shard_view q) room

-- shard by shard, these hold what the old ones held, with no less room
pub record AreKept (old new : List Part) : Type 0 where
  pub long : length new ≡ length old
  pub each : (j : ℕ) (p : Part) → slice_get new j ≡ Some p
      → (q : Part) × (slice_get old j ≡ Some q)
      × ((shard_view p).container ≡ (shard_view q).container)
      × ((shard_view q).room ≤ (shard_view p).room)

-- a closed hall as it was left, but that its shards may have more room
pub record IsLeftAs (old new : ClosedView) : Type 0 where
  pub journal : new.journal ≡ old.journal
  pub replies : new.replies ≡ old.replies
  pub shards : new.shards ≡ old.shards
  pub callers : new.callers ≡ old.callers
  pub parts : AreKept old.parts new.parts

-- ---- what only this crate's own functions cite

-- shard by shard, these are the parts of the tables with which the tickets open
abbrev pub AreOpening : Meaning → ℕ → List Part → Type 0
AreOpening m shards parts = (j : ℕ) (p : Part) → slice_get parts j ≡ Some p
    → (shard_view p).container ≡ part shards (j % shards) (table m.opening (j / shards))

-- the shards have room
abbrev pub HaveRoom : Meaning → List ℕ → ℕ → List Part → List Part → Type 0
HaveRoom m later shards old new = (j : ℕ) (p q : Part) → slice_get new j ≡ Some p
    → slice_get old j ≡ Some q
    → IsRoomFor (adds_of m (j / shards)) (slice_index later (j / shards)) (shard_view q)
    (shard_view p).room
