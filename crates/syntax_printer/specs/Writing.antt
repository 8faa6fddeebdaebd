-- Texts that are written one behind the other.
use Rattle.std.specs.Prelude.{ℕ, List}

-- the bytes of a text, followed by what stands behind it
abbrev pub Text : Type 0
Text = List ℕ → List ℕ
