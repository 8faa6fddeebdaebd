-- The entries of several shards, as they stand there.
use Rattle.std.specs.Prelude.{ℕ, ◌+◌, List, [], ◌∷◌}
use Rattle.std.specs.List.{flat_map}
use Rattle.session_values.specs.Tables.{size_of}
use Rattle.session_journal.specs.Opening.{Pair}
use Rattle.shard_tables.specs.declared.part.Part.{Part}
use Rattle.shard_tables.specs.Either.{entries_in, shard_view}

-- the entries of these shards, one shard after another
abbrev pub all_entries : List Part → List Pair
all_entries ps = flat_map entries_in ps

-- how many keys these shards have
abbrev pub all_sizes : List Part → ℕ
all_sizes [] = 0
all_sizes (p ∷ ps) = size_of (shard_view p).container + all_sizes ps
