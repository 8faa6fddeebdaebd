-- A shard of either kind, seen as one.
use Rattle.std.specs.Prelude.{List, map as map_list}
use Rattle.std.specs.FinMap as map
use Rattle.std.specs.FinSet as set
use Rattle.session_values.specs.declared.value.Value.{Value}
use Rattle.session_values.specs.declared.value.Value.TheVariants.{Nil}
use Rattle.session_values.specs.Opening.{Pair}
use Rattle.shard_tables.specs.Slots.{IndexView}
use Rattle.shard_tables.specs.declared.part.Part.{Part}
use Rattle.shard_tables.specs.declared.part.Part.TheVariants.{Bindings, Members}
use Rattle.session_values.specs.Tables.{Container}
use Rattle.session_values.specs.Tables as tables
use Rattle.shard_tables.specs.Shards.{ShardView, map_shard, set_shard}

-- what a shard of either kind holds
abbrev pub shard_view : Part → ShardView
shard_view (Bindings s) = map_shard s.value
shard_view (Members s) = set_shard s.value

-- the index of its places
abbrev pub index_in : Part → IndexView
index_in (Bindings s) = s.value.index
index_in (Members s) = s.value.index

-- members as entries
abbrev pub as_entries : List Value → List Pair
as_entries ks = map_list (λ (k : Value). (k, Nil)) ks

-- the entries of a shard, as they stand there: keys with what they are bound to, or members with
-- nil
abbrev pub entries_in : Part → List Pair
entries_in (Bindings s) = s.value.entries
entries_in (Members s) = as_entries s.value.entries

-- a container after an entry was put into it: of a map it binds the key, of a set it makes the key a
-- member
abbrev pub with_entry : Pair → Container → Container
with_entry e (tables.Bindings m) = tables.Bindings (map.insert m e.0 e.1)
with_entry e (tables.Members s) = tables.Members (set.insert s e.0)
