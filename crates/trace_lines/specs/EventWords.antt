-- Words that are an event's, and the event that they are.
use Rattle.std.specs.Prelude.{◌≡◌, ℕ, ℤ, zero, suc, ◌<◌, ◌^◌, Bool, true, false, not, ◌&&◌, nat_le, nat_lt, if◌then◌else◌, List, [], ◌∷◌, codes, length, map, slice_get, slice_index, ◌==◌, Option, Some, None}
use Rattle.std.specs.Fmt.{decimal, signed_decimal}
use Rattle.std.specs.List.{AllByRecursion, Contains}
use Rattle.std.specs.Option.{option_map, option_and_then}
use Rattle.std.specs.Str.{bytes_eq}
use Rattle.session_values.specs.declared.kind.Kind.{Kind}
use Rattle.session_values.specs.declared.kind.Kind.TheVariants.{Get, Put, Swap, Del, Size, Bump, Has, Add, Mark, Drop, Count}
use Rattle.session_values.specs.declared.kind.TableKind.{TableKind}
use Rattle.session_values.specs.declared.kind.TableKind.TheVariants.{Map, Set}
use Rattle.session_values.specs.declared.op.Op.{Op}
use Rattle.session_values.specs.declared.reply.Reply.{Reply}
use Rattle.session_values.specs.declared.value.Value.{Value}
use Rattle.session_values.specs.declared.value.Value.TheVariants.{Nil, Num, Sym}
use Rattle.session_values.specs.Kinds.{arguments, home, is_on_map, word_of as kind_word}
use Rattle.session_values.specs.Names.{place_of}
use Rattle.session_values.specs.Op.{IsOp}
use Rattle.session_values.specs.Reply.{IsReply, reply_of, values_of}
use Rattle.session_values.specs.Values.{IsValue}
use Rattle.symbolic_ops.specs.declared.arg.Arg.{Arg}
use Rattle.symbolic_ops.specs.declared.arg.Arg.TheVariants.{Known, Var, Any}
use Rattle.symbolic_ops.specs.declared.symbol.Symbol.{Symbol}
use Rattle.symbolic_ops.specs.Symbol.{IsSymbol}
use Rattle.session_journal.specs.declared.event.Event.{Event}
use Rattle.session_journal.specs.declared.event.Event.TheVariants.{Begin, Done, Delay, End}
use Rattle.text_lines.specs.Values.{is_symbol, number, number_from}
use Rattle.text_lines.specs.ValueWords.{IsWritable, literal_value}
use Rattle.text_lines.specs.Words.{IsWord}
use Rattle.trace_lines.specs.EventText.{text_at}

-- ---- single words

-- the number of 32 bits of which the word is the decimal text
abbrev pub small_number : List ℕ → Option ℕ
small_number w = if bytes_eq w (decimal (number_from 0 w)) && nat_le (number_from 0 w) 4294967295
    then Some (number_from 0 w) else None

-- the first of these kinds whose word it is
abbrev pub kind_among : List Kind → List ℕ → Option Kind
kind_among [] w = None
kind_among (k ∷ ks) w = if bytes_eq w (kind_word k) then Some k else kind_among ks w

abbrev pub kind_of : List ℕ → Option Kind
kind_of = kind_among (Get ∷ Put ∷ Swap ∷ Del ∷ Size ∷ Bump ∷ Has ∷ Add ∷ Mark ∷ Drop ∷ Count ∷ [])

-- operations of the kind work on such a table
abbrev pub works_on : Kind → Option TableKind → Bool
works_on kind None = false
works_on kind (Some Map) = is_on_map kind
works_on kind (Some Set) = not (is_on_map kind)

-- the names of the tables, whose places these are
abbrev pub table_names : List (List ℕ) → List ℕ → List (List ℕ)
table_names names tables = map (text_at names) tables

-- the first table with this name, where operations of the kind work on it
abbrev pub table_of : List (List ℕ) → List TableKind → Kind → List ℕ → Option ℕ
table_of texts shape kind w = if works_on kind (slice_get shape (place_of texts w))
    then Some (place_of texts w) else None

-- an argument of a symbol: `any`, or the literal of a value
abbrev pub arg_value : List (List ℕ) → List ℕ → Option Arg
arg_value names w = if bytes_eq w (codes "any") then Some Any
    else option_map (λ (v : Value). Known v) (literal_value names w)

-- ---- some words, from the first on

-- what the first words say, and the words behind them
abbrev pub Front : Type 0 → Type 0
Front X = Option (X × List (List ℕ))

-- what the first word says
abbrev pub first_word : {X : Type 0} → (List ℕ → Option X) → List (List ℕ) → Front X
first_word f [] = None
first_word f (w ∷ ws) = option_map (λ x. (x, ws)) (f w)

-- and what those behind it say
abbrev pub then_read : {X Y : Type 0} → Front X → (X → List (List ℕ) → Option Y) → Option Y
then_read None g = None
then_read (Some r) g = g r.0 r.1

-- as many arguments as are asked for, and for each other one this
abbrev pub arguments_front : {X : Type 0} → (List ℕ → Option X) → X → ℕ → List (List ℕ)
    → Front (X × X)
arguments_front f none zero ws = Some ((none, none), ws)
arguments_front f none (suc zero) ws = then_read (first_word f ws) (λ k rest.
    Some ((k, none), rest))
arguments_front f none (suc (suc n)) ws = then_read (first_word f ws) (λ k rest.
    then_read (first_word f rest) (λ v more. Some ((k, v), more)))

-- the word of a kind, and the name of a table on which its operations work
abbrev pub head_front : List (List ℕ) → List TableKind → List (List ℕ) → Front (Kind × ℕ)
head_front texts shape ws = then_read (first_word kind_of ws) (λ kind rest.
    then_read (first_word (table_of texts shape kind) rest) (λ t more. Some ((kind, t), more)))

-- an operation
abbrev pub op_front : List (List ℕ) → List ℕ → List TableKind → List (List ℕ) → Front Op
op_front names tables shape ws =
    then_read (head_front (table_names names tables) shape ws) (λ h rest.
    then_read (arguments_front (literal_value names) Nil (arguments h.0) rest) (λ a more.
    Some (record { kind = h.0; table = h.1; key = a.0; value = a.1 }, more)))

-- a symbol
abbrev pub symbol_front : List (List ℕ) → List ℕ → List TableKind → List (List ℕ) → Front Symbol
symbol_front names tables shape ws =
    then_read (head_front (table_names names tables) shape ws) (λ h rest.
    then_read (arguments_front (arg_value names) (Known Nil) (arguments h.0) rest) (λ a more.
    Some (record { kind = h.0; table = h.1; key = a.0; value = a.1 }, more)))

-- ---- all words

-- no word is left
abbrev pub none_left : {X : Type 0} → X → List (List ℕ) → Option X
none_left x [] = Some x
none_left x (w ∷ ws) = None

-- each word is a literal, and these are the values
abbrev pub all_literals : List (List ℕ) → List (List ℕ) → Option (List Value)
all_literals names [] = Some []
all_literals names (w ∷ ws) = option_and_then
    (λ (v : Value). option_map (λ (vs : List Value). v ∷ vs) (all_literals names ws))
    (literal_value names w)

-- the reply of 1 to 4 values
abbrev pub as_reply : List Value → Option Reply
as_reply vs = if nat_lt 0 (length vs) && nat_le (length vs) 4 then Some (reply_of vs) else None

-- what stands behind `begin`, `done`, `delay` and `end`
abbrev pub begin_of : List (List ℕ) → Option Event
begin_of ws = then_read (first_word small_number ws) (λ t rest.
    then_read (first_word small_number rest) (λ c more. none_left (Begin t c) more))

abbrev pub done_of : List (List ℕ) → List ℕ → List TableKind → List (List ℕ) → Option Event
done_of names tables shape ws = then_read (first_word small_number ws) (λ t rest.
    then_read (op_front names tables shape rest) (λ op left.
    then_read (first_word (literal_value names) left) (λ v more. none_left (Done t op v) more)))

abbrev pub delay_of : List (List ℕ) → List ℕ → List TableKind → List (List ℕ) → Option Event
delay_of names tables shape ws = then_read (first_word small_number ws) (λ t rest.
    then_read (op_front names tables shape rest) (λ op left.
    then_read (first_word small_number left) (λ older last.
    then_read (symbol_front names tables shape last) (λ s more.
    none_left (Delay t op older s) more))))

abbrev pub end_of : List (List ℕ) → List (List ℕ) → Option Event
end_of names ws = then_read (first_word small_number ws) (λ t rest.
    option_map (λ (r : Reply). End t r) (option_and_then as_reply (all_literals names rest)))

-- the event that some words are, if they are one, for tables of these kinds whose names have these
-- places
abbrev pub event_of : List (List ℕ) → List ℕ → List TableKind → List (List ℕ) → Option Event
event_of names tables shape [] = None
event_of names tables shape (w ∷ ws) = if bytes_eq w (codes "begin") then begin_of ws
    else (if bytes_eq w (codes "done") then done_of names tables shape ws
    else (if bytes_eq w (codes "delay") then delay_of names tables shape ws
    else (if bytes_eq w (codes "end") then end_of names ws else None)))

-- ---- what is read of a written event

-- Any where `any` was written
abbrev pub place_as_read : ℕ → Option (List ℕ) → Arg
place_as_read place None = Any
place_as_read place (Some text) = Known (Sym place)

abbrev pub arg_as_read : List (List ℕ) → Arg → Arg
arg_as_read names (Known Nil) = Known Nil
arg_as_read names (Known (Num n)) = Known (Num n)
arg_as_read names (Known (Sym place)) = place_as_read place (slice_get names place)
arg_as_read names (Var x) = Any
arg_as_read names Any = Any

abbrev pub symbol_as_read : List (List ℕ) → Symbol → Symbol
symbol_as_read names s = record {
  kind = s.kind;
  table = s.table;
  key = arg_as_read names s.key;
  value = arg_as_read names s.value;
}

abbrev pub as_read : List (List ℕ) → Event → Event
as_read names (Begin t c) = Begin t c
as_read names (Done t op v) = Done t op v
as_read names (Delay t op older s) = Delay t op older (symbol_as_read names s)
as_read names (End t r) = End t r

-- ---- what reads back

-- a table's name that is a word, and no literal of a symbol
pub record IsTableName (w : List ℕ) : Type 0 where
  pub word : IsWord w
  pub plain : (slice_index w 0 == 39) ≡ false

-- a table of the kind on which its operations work
pub record HasHome (tables : List ℕ) (shape : List TableKind) (kind : Kind) (table : ℕ)
    : Type 0 where
  pub exists : table < length tables
  pub works : slice_get shape table ≡ Some (home kind)

-- its arguments are values that words say, and unused ones are nil
pub record IsReadableOp (names : List (List ℕ)) (tables : List ℕ) (shape : List TableKind)
    (op : Op) : Type 0 where
  pub at : HasHome tables shape op.kind op.table
  pub unused : IsOp op.kind op.key op.value
  pub key : IsWritable names op.key
  pub value : IsWritable names op.value

-- what is known is a number of 64 bits, or where its place has a text this is a symbol's
abbrev pub IsReadableArg : List (List ℕ) → Arg → Type 0
IsReadableArg names (Known Nil) = Unit {0}
IsReadableArg names (Known (Num n)) = IsValue (Num n)
IsReadableArg names (Known (Sym place)) =
    (text : List ℕ) → slice_get names place ≡ Some text → is_symbol text ≡ true
IsReadableArg names (Var x) = ⊥
IsReadableArg names Any = Unit {0}

pub record IsReadableSymbol (names : List (List ℕ)) (tables : List ℕ) (shape : List TableKind)
    (s : Symbol) : Type 0 where
  pub at : HasHome tables shape s.kind s.table
  pub unused : IsSymbol s.kind s.key s.value
  pub key : IsReadableArg names s.key
  pub value : IsReadableArg names s.value

-- 1 to 4 values that words say, and unused ones are nil
pub record IsReadableReply (names : List (List ℕ)) (r : Reply) : Type 0 where
  pub count : IsReply r.count r.b r.c r.d
  pub values : AllByRecursion (IsWritable names) (values_of r)

-- tickets and callers have 32 bits, tables are there, and what is told is what words say
abbrev pub IsReadableEvent : List (List ℕ) → List ℕ → List TableKind → Event → Type 0
IsReadableEvent names tables shape (Begin t c) = (t < 2 ^ 32) × (c < 2 ^ 32)
IsReadableEvent names tables shape (Done t op v) =
    (t < 2 ^ 32) × IsReadableOp names tables shape op × IsWritable names v
IsReadableEvent names tables shape (Delay t op older s) = (t < 2 ^ 32) × (older < 2 ^ 32)
    × IsReadableOp names tables shape op × IsReadableSymbol names tables shape s
IsReadableEvent names tables shape (End t r) = (t < 2 ^ 32) × IsReadableReply names r

-- ---- what is written again

-- where it is a number, it is the decimal text of this, and where it is the literal of a symbol, the
-- symbol's text is among the names
pub record IsPlain (names : List (List ℕ)) (w : List ℕ) : Type 0 where
  pub numeral : (n : ℤ) → number w ≡ Some n → w ≡ signed_decimal n
  pub symbol : (text : List ℕ) → w ≡ 39 ∷ text → Contains names text
