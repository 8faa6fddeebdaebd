-- Classes of bytes that handlers and requests share.
use Rattle.std.specs.Prelude.{ℕ, Bool, ◌||◌, ◌==◌}
use Rattle.std.specs.Char.{is_ascii_alphanumeric}

-- a space, a tab or a carriage return
abbrev pub is_blank : ℕ → Bool
is_blank b = b == 32 || (b == 9 || b == 13)

-- what a symbol is made of: a letter, a digit, `_`, `.`, `-`, `@` or `:`
abbrev pub is_symbol_byte : ℕ → Bool
is_symbol_byte b = is_ascii_alphanumeric b || (b == 95
    || (b == 46 || (b == 45 || (b == 64 || b == 58))))
