-- The version of the library.
use Rattle.std.specs.Prelude.{ℕ}

-- 10,000 times the first number and 100 times the second: of 2.1
abbrev pub version : ℕ
version = 20100
