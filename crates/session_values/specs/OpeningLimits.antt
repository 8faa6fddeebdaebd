-- The limits of opening tables: the most that is allowed.
use Rattle.std.specs.Prelude.{ℕ}

-- the lines of a table part
abbrev pub max_table_lines : ℕ
max_table_lines = 100000

-- the entries of all opening tables of a session
abbrev pub max_opening : ℕ
max_opening = 1000000

-- the keys of a table at any moment: those that it opens with, and those that calls add
abbrev pub max_keys : ℕ
max_keys = 1200000
