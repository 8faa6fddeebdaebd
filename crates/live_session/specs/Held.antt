-- The tables of a session, as their shards hold them. Only this crate's own functions cite it.
use Rattle.std.specs.Prelude.{◌≡◌, ℕ, ◌+◌, ◌<◌, ◌≤◌, List, [], length, map, slice_index_or, true}
use Rattle.session_values.specs.declared.op.Op.{Op}
use Rattle.session_values.specs.declared.value.Value.{Value}
use Rattle.session_values.specs.Kinds.{is_adding}
use Rattle.session_values.specs.Values.{IsValue}
use Rattle.session_values.specs.Tables.{reply, size_of, step, table}
use Rattle.session_values.specs.Opening.{Pair}
use Rattle.session_values.specs.Limits.{max_calls}
use Rattle.handler_check.specs.File.{File}
use Rattle.handler_check.specs.Resolved.{code_at}
use Rattle.handler_check.specs.Bounds.{adds_bound}
use Rattle.handler_check.specs.Code.{Code}
use Rattle.shard_tables.specs.declared.part.Part.{Part}
use Rattle.shard_tables.specs.Either.{entries_in, index_in, shard_view}
pub use Rattle.shard_tables.specs.Whole.{container_in, held}
use Rattle.live_session.specs.declared.tables.LiveTables.{LiveTables}

-- the entries of the tables that these shards hold, by table
abbrev pub lists_in : List Part → List (List Pair)
lists_in ps = map entries_in ps

-- for how many keys each has room
abbrev pub rooms : List Part → List ℕ
rooms ps = map (λ (p : Part). (shard_view p).room) ps

-- the factors of their searches
abbrev pub factors_in : List Part → List ℕ
factors_in ps = map (λ (p : Part). (index_in p).factor) ps

-- the room of a table
abbrev pub room_at : List Part → ℕ → ℕ
room_at ps t = slice_index_or (rooms ps) t 0

-- where the operation adds a key to one of the tables, that has room for one more
abbrev pub HasRoom : List Part → Op → Type 0
HasRoom ps op = is_adding op.kind ≡ true → op.table < length ps
    → size_of (table (held ps) op.table) < room_at ps op.table

-- an operation has its reply, and leaves the tables that it leaves
abbrev pub IsDone : List Part → Op → Value → List Part → Type 0
IsDone old op v new = (v ≡ reply (held old) op) × (held new ≡ step (held old) op)

-- it is done where it has room, the rooms and the factors stay, and a program can hold the reply
abbrev pub LiveStep : LiveTables → Op → Value → LiveTables → Type 0
LiveStep old op v new =
    (HasRoom old.parts.items op → IsDone old.parts.items op v new.parts.items)
    × (rooms new.parts.items ≡ rooms old.parts.items)
    × (factors_in new.parts.items ≡ factors_in old.parts.items) × IsValue v

-- each table has room for so many more keys
abbrev pub HaveRoom : (ℕ → ℕ) → List Part → Type 0
HaveRoom more ps = (t : ℕ) → t < length ps → size_of (table (held ps) t) + more t ≤ room_at ps t

-- each table has room for all keys that this code may add to it
abbrev pub HaveRoomFor : Code → List Part → Type 0
HaveRoomFor code ps = HaveRoom (λ t. adds_bound t code) ps

-- how many keys the handler of number h may add to table t, in a list by table and handler
abbrev pub adds_in : List (List ℕ) → ℕ → ℕ → ℕ
adds_in adds t h = slice_index_or (slice_index_or adds t []) h 0

-- the list has the bounds of the file's handlers on so many tables
pub record AreAdds (f : File) (tables : ℕ) (adds : List (List ℕ)) : Type 0 where
  pub long : length adds ≡ tables
  pub each : (t h : ℕ) → t < tables → h < length f.handlers
      → adds_in adds t h ≡ adds_bound t (code_at f h)
  pub few : (t h : ℕ) → t < tables → h < length f.handlers → adds_in adds t h ≤ max_calls
