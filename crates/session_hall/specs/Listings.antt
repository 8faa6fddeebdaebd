-- The entries with which a closed hall leaves its tables.
use Rattle.std.specs.Prelude.{◌≡◌, ℕ, ◌+◌, ◌*◌, ◌≤◌, List, Some, length, take, drop, slice_get}
use Rattle.session_values.specs.declared.kind.TableKind.{TableKind}
use Rattle.session_values.specs.Serial.{tables_before}
use Rattle.session_values.specs.Tables.{table}
use Rattle.session_journal.specs.Opening.{Pair, AreApart, container_of, entries_of}
use Rattle.session_journal.specs.Script.{Meaning, room, session_of}
use Rattle.shard_tables.specs.declared.part.Part.{Part}
use Rattle.hall_rule.specs.Listing.{all_entries}
use Rattle.session_hall.specs.Closings.{ClosedView}

-- the shards of table i
abbrev pub shards_at : ClosedView → ℕ → List Part
shards_at d i = take d.shards (drop (i * d.shards) d.parts)

-- the entries of table i, shard by shard
abbrev pub listed : ClosedView → ℕ → List Pair
listed d i = all_entries (shards_at d i)

-- these entries are table i after serving the tickets one at a time, each key once; they are no
-- more than the entries that it opened with and the keys that may be added
pub record AreLeft (m : Meaning) (i : ℕ) (es : List Pair) : Type 0 where
  pub are : (kind : TableKind) → slice_get m.shape i ≡ Some kind
      → container_of kind es ≡ table (tables_before (session_of m) m.requests) i
  pub apart : AreApart es
  pub few : length es ≤ length (entries_of m.opened i) + room m i
