-- Bytes that go on to a sink by way of others that wait. (Only functions within the crate cite it.)
use Rattle.std.specs.Prelude.{◌≡◌, ℕ, List, ◌++◌, Option}
use Rattle.byte_ends.specs.Ends.{Appended}

-- behind the bytes that waited come these: of all some were written, and the others wait
pub record HasMoved (old new : Option (List ℕ)) (waited waits bytes : List ℕ) : Type 0 where
  pub written : List ℕ
  pub grew : Appended old new written
  pub all : written ++ waits ≡ waited ++ bytes
