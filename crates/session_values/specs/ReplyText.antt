-- The text of replies.
use Rattle.std.specs.Prelude.{ℕ, ◌+◌, List, [], ◌∷◌, ◌++◌, codes, slice_get, unwrap_or}
use Rattle.std.specs.Fmt.{decimal, signed_decimal}
use Rattle.session_values.specs.declared.value.Value.{Value}
use Rattle.session_values.specs.declared.value.Value.TheVariants.{Nil, Num, Sym}
use Rattle.session_values.specs.declared.reply.Reply.{Reply}
use Rattle.session_values.specs.Names.{IsNamed}
use Rattle.session_values.specs.Reply.{values_of}

-- a value that a line has room for: where it is a symbol, its place has a text of at most 64 bytes
abbrev pub IsPrintable : List (List ℕ) → Value → Type 0
IsPrintable names Nil = Unit {0}
IsPrintable names (Num n) = Unit {0}
IsPrintable names (Sym place) = IsNamed names place

-- `nil`, decimal, or the symbol's text
abbrev pub value_text : List (List ℕ) → Value → List ℕ
value_text names Nil = codes "nil"
value_text names (Num n) = signed_decimal n
value_text names (Sym place) = unwrap_or (slice_get names place) []

-- for each value a space and the value
unfoldable pub values_text : List (List ℕ) → List Value → List ℕ
values_text names [] = []
values_text names (v ∷ vs) = 32 ∷ value_text names v ++ values_text names vs

-- a ticket's line: the ticket, its values, and a line feed
abbrev pub line_text : List (List ℕ) → ℕ → Reply → List ℕ
line_text names ticket r = (decimal ticket ++ values_text names (values_of r)) ++ 10 ∷ []

-- the lines of replies, of which the first is this ticket's
unfoldable pub reply_text : List (List ℕ) → ℕ → List Reply → List ℕ
reply_text names ticket [] = []
reply_text names ticket (r ∷ rs) = line_text names ticket r ++ reply_text names (ticket + 1) rs
