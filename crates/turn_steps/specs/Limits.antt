-- How many turns a board has.
use Rattle.std.specs.Prelude.{ℕ}

-- the turns of a board, each a bit of one word: the book's, and one for each shard of each table
abbrev pub max_board_turns : ℕ
max_board_turns = 57
