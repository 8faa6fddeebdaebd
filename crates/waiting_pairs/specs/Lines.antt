-- The lines that tell who waits for whom.
use Rattle.std.specs.Prelude.{ℕ, nat_lt, Bool, true, false, ◌&&◌, List, ◌∷◌, [], ◌++◌, map, codes}
use Rattle.std.specs.Prelude.{slice_get, unwrap_or, Option, Some, None}
use Rattle.std.specs.List.{flat_map}
use Rattle.std.specs.Fmt.{decimal, signed_decimal}
use Rattle.session_values.specs.declared.value.Value.{Value}
use Rattle.session_values.specs.declared.value.Value.TheVariants.{Nil, Num, Sym}
use Rattle.session_values.specs.Kinds.{arguments, is_keyed, word_of}
use Rattle.symbolic_ops.specs.declared.arg.Arg.{Arg}
use Rattle.symbolic_ops.specs.declared.arg.Arg.TheVariants.{Known, Var, Any}
use Rattle.symbolic_ops.specs.declared.symbol.Symbol.{Symbol}
use Rattle.serve_reading.specs.Language.{File, Handler}
use Rattle.serve_reading.specs.Resolved.{table_names, variables_at}
use Rattle.refusal_places.specs.PlaceText.{place_name}
use Rattle.refusal_places.specs.Spots.{Spot, byte_spot}
use Rattle.waiting_pairs.specs.declared.asked.Asked.{Asked}
use Rattle.waiting_pairs.specs.declared.waiting.Wait.{Wait}

-- ---- symbols
-- a name, if there is one
abbrev pub named : List (List ℕ) → Option ℕ → List ℕ
named names None = []
named names (Some place) = unwrap_or (slice_get names place) []

-- `nil`, decimal, or a quote and the symbol's text
abbrev pub literal_word : List (List ℕ) → Value → List ℕ
literal_word names Nil = codes "nil"
literal_word names (Num n) = signed_decimal n
literal_word names (Sym place) = 39 ∷ named names (Some place)

-- an argument, where variables have these names
abbrev pub arg_word : List (List ℕ) → List ℕ → Arg → List ℕ
arg_word names variables (Known v) = literal_word names v
arg_word names variables (Var x) = named names (slice_get variables x)
arg_word names variables Any = codes "any"

-- a comma, a space and the argument, if the operation has it
abbrev pub further : List (List ℕ) → List ℕ → Bool → Arg → List ℕ
further names variables true arg = codes ", " ++ arg_word names variables arg
further names variables false arg = []

-- the operation's word, and in parentheses the table and the arguments
abbrev pub symbol_words : List (List ℕ) → File → ℕ → Symbol → List ℕ
symbol_words names f h s =
    word_of s.kind ++ codes "(" ++ named names (slice_get (table_names f) s.table)
    ++ further names (variables_at f h) (nat_lt 0 (arguments s.kind)) s.key
    ++ further names (variables_at f h) (nat_lt 1 (arguments s.kind)) s.value ++ codes ")"

-- ---- places
abbrev pub handler_names : File → List ℕ
handler_names f = map (λ (h : Handler). h.name) f.handlers

abbrev pub handler_word : List (List ℕ) → File → ℕ → List ℕ
handler_word names f h = named names (slice_get (handler_names f) h)

-- with line and column, where the text has that many bytes
abbrev pub placed : List ℕ → Option Spot → List ℕ
placed name None = name
placed name (Some s) = place_name name s

-- ---- lines
-- the operation that waits: where it stands, and it
abbrev pub waiter_words : List (List ℕ) → File → List ℕ → Asked → List ℕ
waiter_words names f text a =
    placed (handler_word names f a.handler) (byte_spot text a.at) ++ 9 ∷ []
    ++ symbol_words names f a.handler a.op ++ 9 ∷ []

-- the handler that is waited for, the number of the point, and what may still be called
abbrev pub holder_words : List (List ℕ) → File → Wait → List ℕ
holder_words names f w =
    handler_word names f w.holder ++ 9 ∷ [] ++ decimal w.point ++ 9 ∷ []
    ++ symbol_words names f w.holder w.symbol ++ 9 ∷ []

-- the arguments that are equal where it waits: both keys, or none
abbrev pub keys_of : List (List ℕ) → File → Wait → Bool → List ℕ
keys_of names f w true =
    arg_word names (variables_at f w.asked.handler) w.asked.op.key ++ codes " = "
    ++ arg_word names (variables_at f w.holder) w.symbol.key ++ 10 ∷ []
keys_of names f w false = codes "any key\n"

abbrev pub key_words : List (List ℕ) → File → Wait → List ℕ
key_words names f w = keys_of names f w (is_keyed w.asked.op.kind && is_keyed w.symbol.kind)

abbrev pub line : List (List ℕ) → File → List ℕ → Wait → List ℕ
line names f text w =
    waiter_words names f text w.asked ++ holder_words names f w ++ key_words names f w

-- what stands above the lines
abbrev pub head : List ℕ
head =
    codes "# waits, operation, for, point, may call, keys: over paths of the text, not over runs\n"

abbrev pub lines : List (List ℕ) → File → List ℕ → List Wait → List ℕ
lines names f text waits = head ++ flat_map (line names f text) waits
