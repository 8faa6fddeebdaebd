-- Shards as contracts see them: what one holds, and how many keys it has room for.
use Rattle.std.specs.Prelude.{◌≡◌, ℕ, ◌-◌, ◌<◌, ◌≤◌, max, List, length, map as map_list, Bool, true, false, refl}
use Rattle.std.specs.Coded.{Coded, code_by, coded×, coded_ℕ, coded_list}
use Rattle.std.specs.FinMap as map
use Rattle.std.specs.FinSet as set
use Rattle.session_values.specs.contracts.value.Value as value
use Rattle.session_values.specs.declared.op.Op.{Op}
use Rattle.session_values.specs.declared.value.Value.{Value}
use Rattle.session_values.specs.Values.{value_cmp}
use Rattle.session_values.specs.Kinds.{is_adding}
use Rattle.session_values.specs.Tables.{Container, Bindings, Members, after_on, size_of}
use Rattle.shard_tables.specs.Keys.{AreDifferent}
use Rattle.shard_tables.specs.Slots.{IndexView, IsIndexOf, IsSizedFor}

-- a shard of a map: the pairs of its part, in the order in which they stand, and the index of their
-- places
pub record MapView : Type 0 where
  pub entries : List (Value × Value)
  pub room : ℕ
  pub index : IndexView

-- a shard of a set: the keys of its part, in the order in which they stand, and the index of their
-- places
pub record SetView : Type 0 where
  pub entries : List Value
  pub room : ℕ
  pub index : IndexView

-- what a map's shard holds
abbrev pub bindings : MapView → map.FinMap value_cmp Value
bindings s = map.from_entries s.entries

-- the keys that a set's shard holds
abbrev pub members : SetView → set.FinSet value_cmp
members s = set.from_list s.entries

-- a shard of either
pub record ShardView : Type 0 where
  pub container : Container
  pub room : ℕ

-- a map's shard, seen as a shard of either
abbrev pub map_shard : MapView → ShardView
map_shard s = record { container = Bindings (bindings s); room = s.room }

-- a set's shard, seen as a shard of either
abbrev pub set_shard : SetView → ShardView
set_shard s = record { container = Members (members s); room = s.room }

-- for how many more keys there is room
abbrev pub spare_of : ShardView → ℕ
spare_of s = s.room - size_of s.container

-- whether a key is bound, or is a member
abbrev pub has_key : Container → Value → Bool
has_key (Bindings m) k = map.contains_key m k
has_key (Members s) k = set.contains s k

-- where the operation adds a key that is absent, room is left
abbrev pub HasRoomFor : Op → ShardView → Type 0
HasRoomFor op s =
    is_adding op.kind ≡ true → has_key s.container op.key ≡ false → size_of s.container < s.room

-- a shard after an operation: its room stays
abbrev pub shard_after : ShardView → Op → ShardView
shard_after s op = record { container = after_on s.container op; room = s.room }

-- the same shard with room for so many keys, or for those that it holds where they are more
abbrev pub grown_to : ℕ → ShardView → ShardView
grown_to room s = record { container = s.container; room = max room (size_of s.container) }

-- how a room is told from others, with an index
abbrev pub sizes_code : Coded (ℕ × (ℕ × (ℕ × List ℕ)))
sizes_code = coded× coded_ℕ (coded× coded_ℕ (coded× coded_ℕ (coded_list coded_ℕ)))

abbrev pub index_of : ℕ × (ℕ × List ℕ) → IndexView
index_of p = record { factor = p.0; bits = p.1.0; slots = p.1.1 }

-- how a map's shard is told from others
abbrev pub map_code : Coded MapView
map_code =
    code_by (List (Value × Value) × (ℕ × (ℕ × (ℕ × List ℕ))))
    (coded× (coded_list (coded× value.the_row.coded value.the_row.coded)) sizes_code)
    (λ s. (s.entries, (s.room, (s.index.factor, (s.index.bits, s.index.slots)))))
    (λ p. record { entries = p.0; room = p.1.0; index = index_of p.1.1 }) (λ _. refl)

-- how a set's shard is told from others
abbrev pub set_code : Coded SetView
set_code =
    code_by (List Value × (ℕ × (ℕ × (ℕ × List ℕ))))
    (coded× (coded_list value.the_row.coded) sizes_code)
    (λ s. (s.entries, (s.room, (s.index.factor, (s.index.bits, s.index.slots)))))
    (λ p. record { entries = p.0; room = p.1.0; index = index_of p.1.1 }) (λ _. refl)

-- the elements of a shard have different keys, and their places are what the index holds; there are
-- at most as many as the room, for which the capacity is there and the index has its slots
pub record FitsRoom {X : Type 0} (key : X → Value) (items : List X) (capacity room : ℕ)
    (index : IndexView) : Type 0 where
  pub different : AreDifferent key items
  pub indexed : IsIndexOf (map_list key items) index
  pub within : length items ≤ room
  pub reserved : room ≤ capacity
  pub sized : IsSizedFor room index.bits
  pub few : room ≤ 1073741824
