-- Bytes that wait to be written, as contracts see them.
use Rattle.std.specs.Prelude.{ℕ, List}

-- the bytes that wait, and for how many more room is reserved
pub record Waiting : Type 0 where
  pub held : List ℕ
  pub reserved : ℕ
