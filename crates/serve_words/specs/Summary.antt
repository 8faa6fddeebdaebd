-- The summary of a session.
use Rattle.std.specs.Prelude.{ℕ, List, ◌++◌, codes, decimal}

-- how many requests, how many operations, and how many bytes of reply lines
abbrev pub summary : ℕ → ℕ → ℕ → List ℕ
summary requests calls bytes =
    codes "requests " ++ decimal requests ++ codes "\ncalls " ++ decimal calls
    ++ codes "\nbytes " ++ decimal bytes ++ codes "\n"
