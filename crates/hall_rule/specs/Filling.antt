-- The entries of a table that one shard opens with.
use Rattle.std.specs.Prelude.{ℕ, ◌+◌, ◌==◌, List, [], ◌∷◌, cond}
use Rattle.session_journal.specs.Opening.{Pair}
use Rattle.shard_tables.specs.Parts.{shard_of}

-- how many of these entries are of shard i of so many
abbrev pub count_in : ℕ → ℕ → List Pair → ℕ
count_in shards i [] = 0
count_in shards i (e ∷ es) = cond (shard_of shards e.0 == i) 1 0 + count_in shards i es
