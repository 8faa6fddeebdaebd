-- What stands at the points of handlers: the line of a declaration, with the symbols of the
-- operations that may still come.
use Rattle.std.specs.Prelude.{ℕ, Bool, false, List, [], ◌∷◌, ◌++◌, map, take, codes, slice_get, Option, Some, None}
use Rattle.session_values.specs.Kinds.{arguments, word_of}
use Rattle.symbolic_ops.specs.declared.arg.Arg.{Arg}
use Rattle.symbolic_ops.specs.declared.arg.Arg.TheVariants.{Known, Var, Any}
use Rattle.symbolic_ops.specs.declared.symbol.Symbol.{Symbol}
use Rattle.syntax_printer.specs.Canonical.{further, indent, listed, literal_text, name_text}
use Rattle.syntax_printer.specs.Writing.{Text}

-- what stands at points, where handlers, points, tables and variables go by their numbers
pub record AtPoints : Type 0 where
  -- Each point has a line. Where it is false, none has one.
  pub shown : Bool
  -- the symbols at a point of a handler
  pub symbols : (handler point : ℕ) → List Symbol
  -- the names of the tables
  pub tables : List ℕ
  -- the names of the variables of a handler
  pub variables : (handler : ℕ) → List ℕ

-- no point has a line
abbrev pub nothing_shown : AtPoints
nothing_shown = record {
  shown = false;
  symbols = λ handler point. [];
  tables = [];
  variables = λ handler. [];
}

-- a name, if there is one
abbrev pub named_text : List (List ℕ) → Option ℕ → Text
named_text names None rest = rest
named_text names (Some place) rest = name_text names place rest

-- an argument, where variables have these names
abbrev pub arg_text : List (List ℕ) → List ℕ → Arg → Text
arg_text names variables (Known v) rest = literal_text names v rest
arg_text names variables (Var x) rest = named_text names (slice_get variables x) rest
arg_text names variables Any rest = codes "any" ++ rest

-- the arguments that operations of its kind have
abbrev pub args_of : Symbol → List Arg
args_of s = take (arguments s.kind) (s.key ∷ s.value ∷ [])

-- the operation's word, and in parentheses the table and the arguments
abbrev pub symbol_text : List (List ℕ) → List ℕ → List ℕ → Symbol → Text
symbol_text names tables variables s rest =
    word_of s.kind ++ (codes "(" ++ named_text names (slice_get tables s.table)
    (further (map (arg_text names variables) (args_of s)) (codes ")" ++ rest)))

-- the symbols, or that there is none
abbrev pub symbols_text : List (List ℕ) → List ℕ → List ℕ → List Symbol → Text
symbols_text names tables variables [] rest = codes "nothing" ++ rest
symbols_text names tables variables (s ∷ ss) rest = listed
    (map (symbol_text names tables variables) (s ∷ ss)) rest

-- the line of a point, inside so many blocks
abbrev pub point_text : List (List ℕ) → AtPoints → (handler depth point : ℕ) → Text
point_text names a handler depth point rest =
    indent depth (codes "mayuse "
    ++ symbols_text names a.tables (a.variables handler) (a.symbols handler point)
    (codes ";\n" ++ rest))
