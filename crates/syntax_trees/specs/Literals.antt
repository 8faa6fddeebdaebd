-- The value that a literal keeps.
use Rattle.std.specs.Int.{w32, w64, from_le_bytes, cast_signed}
use Rattle.session_values.specs.declared.value.Value.{Value}
use Rattle.session_values.specs.declared.value.Value.TheVariants as value
use Rattle.syntax_trees.specs.declared.literal.Kept.{Kept}
use Rattle.syntax_trees.specs.declared.literal.Kept.TheVariants as kept

-- nil, a signed number of eight bytes, or a symbol's place of four, the lowest byte first
abbrev pub kept_value : Kept → Value
kept_value kept.Nil = value.Nil
kept_value (kept.Num bytes) = value.Num (cast_signed w64 (from_le_bytes w64 bytes))
kept_value (kept.Sym bytes) = value.Sym (from_le_bytes w32 bytes)
