-- The text of events: a line for each.
use Rattle.std.specs.Prelude.{◌≡◌, ℕ, ◌<◌, ◌≤◌, List, [], ◌∷◌, ◌++◌, codes, length, map, slice_get, slice_index, Option, Some, None, take, unwrap_or}
use Rattle.std.specs.Fmt.{decimal}
use Rattle.std.specs.List.{AllByRecursion}
use Rattle.session_values.specs.Limits.{max_name}
use Rattle.session_values.specs.declared.kind.Kind.{Kind}
use Rattle.session_values.specs.declared.op.Op.{Op}
use Rattle.session_values.specs.declared.reply.Reply.{Reply}
use Rattle.session_values.specs.declared.value.Value.{Value}
use Rattle.session_values.specs.declared.value.Value.TheVariants.{Nil, Num, Sym}
use Rattle.session_values.specs.Kinds.{arguments, word_of as kind_word}
use Rattle.session_values.specs.Names.{IsNamed}
use Rattle.session_values.specs.Reply.{values_of}
use Rattle.session_values.specs.ReplyText.{IsPrintable}
use Rattle.symbolic_ops.specs.declared.arg.Arg.{Arg}
use Rattle.symbolic_ops.specs.declared.arg.Arg.TheVariants.{Known, Var, Any}
use Rattle.symbolic_ops.specs.declared.symbol.Symbol.{Symbol}
use Rattle.session_journal.specs.declared.event.Event.{Event}
use Rattle.session_journal.specs.declared.event.Event.TheVariants.{Begin, Done, Delay, End}
use Rattle.text_lines.specs.ValueWords.{literal_text}
use Rattle.text_lines.specs.Words.{spaced}

-- ---- words

-- the text at a place of the list of names
abbrev pub text_at : List (List ℕ) → ℕ → List ℕ
text_at names place = unwrap_or (slice_get names place) []

-- the word of a kind, and the name of a table, whose places these are
abbrev pub head_words : List (List ℕ) → List ℕ → Kind → ℕ → List (List ℕ)
head_words names tables kind table =
    kind_word kind ∷ text_at names (slice_index tables table) ∷ []

-- as many of two arguments as the kind has
abbrev pub used : {X : Type 0} → Kind → X → X → List X
used kind key value = take (arguments kind) (key ∷ value ∷ [])

-- an operation: the word of its kind, its table's name, and its arguments as literals
abbrev pub op_words : List (List ℕ) → List ℕ → Op → List (List ℕ)
op_words names tables op = head_words names tables op.kind op.table
    ++ map (literal_text names) (used op.kind op.key op.value)

-- a known symbol whose place isn't in the list of names is written as what may be any value
abbrev pub symbol_text : Option (List ℕ) → List ℕ
symbol_text None = codes "any"
symbol_text (Some text) = 39 ∷ text

abbrev pub known_text : List (List ℕ) → Value → List ℕ
known_text names Nil = literal_text names Nil
known_text names (Num n) = literal_text names (Num n)
known_text names (Sym place) = symbol_text (slice_get names place)

-- an argument of a symbol: `any`, or the literal of what is known
abbrev pub arg_text : List (List ℕ) → Arg → List ℕ
arg_text names (Known v) = known_text names v
arg_text names (Var x) = codes "any"
arg_text names Any = codes "any"

-- a symbol: the word of its kind, its table's name, and its arguments
abbrev pub symbol_words : List (List ℕ) → List ℕ → Symbol → List (List ℕ)
symbol_words names tables s = head_words names tables s.kind s.table
    ++ map (arg_text names) (used s.kind s.key s.value)

-- a reply: its values as literals
abbrev pub reply_words : List (List ℕ) → Reply → List (List ℕ)
reply_words names r = map (literal_text names) (values_of r)

-- the words of an event: its kind, its ticket, and what it tells of it
abbrev pub event_words : List (List ℕ) → List ℕ → Event → List (List ℕ)
event_words names tables (Begin t c) = codes "begin" ∷ decimal t ∷ decimal c ∷ []
event_words names tables (Done t op v) =
    codes "done" ∷ decimal t ∷ op_words names tables op ++ literal_text names v ∷ []
event_words names tables (Delay t op older s) =
    codes "delay" ∷ decimal t ∷ op_words names tables op ++ decimal older
    ∷ symbol_words names tables s
event_words names tables (End t r) = codes "end" ∷ decimal t ∷ reply_words names r

-- its line: its words, a space between two, and a line feed
abbrev pub event_text : List (List ℕ) → List ℕ → Event → List ℕ
event_text names tables e = spaced (event_words names tables e) ++ 10 ∷ []

-- the lines of some events
abbrev pub events_text : List (List ℕ) → List ℕ → List Event → List ℕ
events_text names tables [] = []
events_text names tables (e ∷ es) = event_text names tables e ++ events_text names tables es

-- the line with which the text of a trace begins
abbrev pub head_text : List ℕ
head_text = codes "%% trace" ++ 10 ∷ []

-- the text of a trace: this line, and those of its events
abbrev pub trace_text : List (List ℕ) → List ℕ → List Event → List ℕ
trace_text names tables es = head_text ++ events_text names tables es

-- ---- what can be written

-- there is such a table, and its name has a text of at most 64 bytes
pub record HasTable (names : List (List ℕ)) (tables : List ℕ) (table : ℕ) : Type 0 where
  pub exists : table < length tables
  pub named : IsNamed names (slice_index tables table)

-- the table and each argument have texts of at most 64 bytes
pub record CanWriteOp (names : List (List ℕ)) (tables : List ℕ) (op : Op) : Type 0 where
  pub table : HasTable names tables op.table
  pub key : IsPrintable names op.key
  pub value : IsPrintable names op.value

-- it is no variable, and what it knows has no text of more than 64 bytes
abbrev pub CanWriteArg : List (List ℕ) → Arg → Type 0
CanWriteArg names (Known Nil) = Unit {0}
CanWriteArg names (Known (Num n)) = Unit {0}
CanWriteArg names (Known (Sym place)) =
    (text : List ℕ) → slice_get names place ≡ Some text → length text ≤ max_name
CanWriteArg names (Var x) = ⊥
CanWriteArg names Any = Unit {0}

pub record CanWriteSymbol (names : List (List ℕ)) (tables : List ℕ) (s : Symbol) : Type 0 where
  pub table : HasTable names tables s.table
  pub key : CanWriteArg names s.key
  pub value : CanWriteArg names s.value

abbrev pub CanWriteReply : List (List ℕ) → Reply → Type 0
CanWriteReply names r = AllByRecursion (IsPrintable names) (values_of r)

-- each text of the event has at most 64 bytes, and its symbol has no variable
abbrev pub CanWrite : List (List ℕ) → List ℕ → Event → Type 0
CanWrite names tables (Begin t c) = Unit {0}
CanWrite names tables (Done t op v) = CanWriteOp names tables op × IsPrintable names v
CanWrite names tables (Delay t op older s) =
    CanWriteOp names tables op × CanWriteSymbol names tables s
CanWrite names tables (End t r) = CanWriteReply names r
