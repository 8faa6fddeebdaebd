-- What a line asks for, by its words alone.
use Rattle.std.specs.Prelude.{ℕ, ℤ, Bool, if◌then◌else◌, List, [], ◌∷◌, ◌++◌, codes, Option, Some}
use Rattle.std.specs.Prelude.{None, Result, Ok, Err}
use Rattle.std.specs.Str.{bytes_eq}
use Rattle.session_values.specs.declared.kind.Kind.{Kind}
use Rattle.session_values.specs.declared.kind.Kind.TheVariants as kind
use Rattle.session_values.specs.declared.value.Value.TheVariants.{Nil, Num, Sym}
use Rattle.symbolic_ops.specs.declared.arg.Arg.{Arg}
use Rattle.symbolic_ops.specs.declared.arg.Arg.TheVariants as arg
use Rattle.range_tables.specs.declared.range_op.RangeOp.{RangeOp}
use Rattle.range_tables.specs.declared.range_op.RangeOp.TheVariants as op
use Rattle.range_tables.specs.declared.range_symbol.RangeSymbol.{RangeSymbol}
use Rattle.range_tables.specs.declared.range_symbol.RangeSymbol.TheVariants as symbol
use Rattle.text_lines.specs.Text.{Text}
use Rattle.range_tables.specs.declared.step.Flaw.{Flaw}
use Rattle.range_tables.specs.declared.step.Flaw.TheVariants.{UnknownWord, Arity, BadWord}
use Rattle.range_tables.specs.declared.step.Step.{Step}
use Rattle.range_tables.specs.declared.step.Step.TheVariants.{Hold, Free, Do}
use Rattle.range_tables.specs.declared.word.Operand.{Operand}
use Rattle.range_tables.specs.declared.word.Operand.TheVariants.{Known, Any, Range}
use Rattle.range_tables.specs.declared.word.Verb.{Verb}
use Rattle.range_tables.specs.declared.word.Verb.TheVariants as verb
use Rattle.range_tables.specs.declared.word.Word.{Word}

-- ---- one symbol

-- a symbol of the one map, without a range
abbrev pub plain : Kind → Arg → Arg → RangeSymbol
plain kind key value =
    symbol.Plain (record { kind = kind; table = 0; key = key; value = value })

-- a symbol with this value, by its key
abbrev pub with_key : Kind → Arg → Option Operand → Result RangeSymbol Flaw
with_key kind value None = Err BadWord
with_key kind value (Some Any) = Ok (plain kind arg.Any value)
with_key kind value (Some (Known k)) = Ok (plain kind (arg.Known k) value)
with_key kind value (Some (Range low high)) = Ok (symbol.Span kind 0 low high value)

-- a symbol by its key and its value
abbrev pub with_both : Kind → Option Operand → Option Operand → Result RangeSymbol Flaw
with_both kind key None = Err BadWord
with_both kind key (Some Any) = with_key kind arg.Any key
with_both kind key (Some (Known v)) = with_key kind (arg.Known v) key
with_both kind key (Some (Range low high)) = Err BadWord

-- the number of an operand that is one
abbrev pub number_in : Option Operand → Option ℤ
number_in None = None
number_in (Some Any) = None
number_in (Some (Known Nil)) = None
number_in (Some (Known (Num n))) = Some n
number_in (Some (Known (Sym place))) = None
number_in (Some (Range low high)) = None

abbrev pub within_by : Option ℤ → Option ℤ → Result RangeSymbol Flaw
within_by (Some low) (Some high) = Ok (symbol.Within 0 low high)
within_by (Some low) None = Err BadWord
within_by None high = Err BadWord

-- a symbol by the word of its operation and the words behind it
abbrev pub symbol_by : Option Verb → List Word → Result RangeSymbol Flaw
symbol_by None ws = Err UnknownWord
symbol_by (Some verb.Size) [] = Ok (plain kind.Size (arg.Known Nil) (arg.Known Nil))
symbol_by (Some verb.Get) (k ∷ []) = with_key kind.Get (arg.Known Nil) k.operand
symbol_by (Some verb.Del) (k ∷ []) = with_key kind.Del (arg.Known Nil) k.operand
symbol_by (Some verb.Put) (k ∷ v ∷ []) = with_both kind.Put k.operand v.operand
symbol_by (Some verb.Swap) (k ∷ v ∷ []) = with_both kind.Swap k.operand v.operand
symbol_by (Some verb.Bump) (k ∷ v ∷ []) = with_both kind.Bump k.operand v.operand
symbol_by (Some verb.Between) (l ∷ h ∷ []) = within_by (number_in l.operand) (number_in h.operand)
symbol_by (Some verb) ws = Err Arity

unfoldable pub symbol_of : List Word → Result RangeSymbol Flaw
symbol_of [] = Err UnknownWord
symbol_of (w ∷ ws) = symbol_by w.verb ws

-- ---- the symbols of a hold

-- the parts of some words, which marks part, where these words stand before them in the first part
abbrev pub parts_behind : List Word → List Word → List (List Word)
parts_behind front [] = front ∷ []
parts_behind front (w ∷ ws) =
    if w.is_mark then front ∷ parts_behind [] ws else parts_behind (front ++ w ∷ []) ws

-- no words have no part
abbrev pub parts : List Word → List (List Word)
parts [] = []
parts (w ∷ ws) = parts_behind [] (w ∷ ws)

-- the flaw that is named where there are both
abbrev pub sooner : Flaw → Flaw → Flaw
sooner UnknownWord f = UnknownWord
sooner Arity UnknownWord = UnknownWord
sooner Arity Arity = Arity
sooner Arity BadWord = Arity
sooner BadWord f = f

abbrev pub beside : Result RangeSymbol Flaw → Result (List RangeSymbol) Flaw
    → Result (List RangeSymbol) Flaw
beside (Ok s) (Ok more) = Ok (s ∷ more)
beside (Ok s) (Err f) = Err f
beside (Err f) (Ok more) = Err f
beside (Err f) (Err g) = Err (sooner f g)

-- the symbols of some parts, or the flaw among them that is named
abbrev pub symbols_of : List (List Word) → Result (List RangeSymbol) Flaw
symbols_of [] = Ok []
symbols_of (p ∷ ps) = beside (symbol_of p) (symbols_of ps)

-- ---- steps

abbrev pub hold_by : Result (List RangeSymbol) Flaw → Result Step Flaw
hold_by (Ok symbols) = Ok (Hold symbols)
hold_by (Err f) = Err f

abbrev pub free_by : Option ℤ → Result Step Flaw
free_by None = Err BadWord
free_by (Some n) = Ok (Free n)

abbrev pub free_of : List Word → Result Step Flaw
free_of (w ∷ []) = free_by (number_in w.operand)
free_of _ = Err Arity

-- the one operation that a symbol stands for, if it knows all of it
abbrev pub op_with : Kind → ℕ → Arg → Arg → Option RangeOp
op_with kind table (arg.Known k) (arg.Known v) =
    Some (op.Plain (record { kind = kind; table = table; key = k; value = v }))
op_with kind table key value = None

abbrev pub op_of : RangeSymbol → Option RangeOp
op_of (symbol.Plain s) = op_with s.kind s.table s.key s.value
op_of (symbol.Span kind table low high value) = None
op_of (symbol.Within table low high) = Some (op.Between table low high)

abbrev pub do_with : Option RangeOp → Result Step Flaw
do_with None = Err BadWord
do_with (Some o) = Ok (Do o)

abbrev pub do_by : Result RangeSymbol Flaw → Result Step Flaw
do_by (Ok s) = do_with (op_of s)
do_by (Err f) = Err f

-- an operation is a symbol that knows all of it
abbrev pub do_of : List Word → Result Step Flaw
do_of [] = Err Arity
do_of (w ∷ ws) = do_by (symbol_of (w ∷ ws))

abbrev pub is_hold : Text → Bool
is_hold name = bytes_eq name (codes "hold")

-- what a line with this first word and these others asks for
unfoldable pub step_of : Text → List Word → Result Step Flaw
step_of name ws =
    if is_hold name then hold_by (symbols_of (parts ws))
    else (if bytes_eq name (codes "free") then free_of ws
    else (if bytes_eq name (codes "do") then do_of ws else Err UnknownWord))
