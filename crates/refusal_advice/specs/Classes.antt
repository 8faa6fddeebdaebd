-- Classes of words: words that the grammar allows at the same places.
use Rattle.std.specs.Prelude.{ℕ, List, [], ◌∷◌, Option, Some, None, codes}
use Rattle.session_values.specs.declared.kind.Kind.TheVariants as kind
use Rattle.session_values.specs.declared.kind.TableKind.TheVariants as table
use Rattle.syntax_trees.specs.declared.stmt.Compare.TheVariants as compare
use Rattle.syntax_grammar.specs.declared.word.Sort.{Sort}
use Rattle.syntax_grammar.specs.declared.word.Sort.TheVariants as sort
use Rattle.refusal_advice.specs.declared.class.Class.{Class}
use Rattle.refusal_advice.specs.declared.class.Class.TheVariants as class

-- the class of a word; what isn't here stands in no text
abbrev pub class_of : Sort → Option Class
class_of (sort.Table k) = Some class.Table
class_of sort.Handler = Some class.Handler
class_of (sort.Name n) = Some class.Name
class_of (sort.Symbol n) = Some class.Symbol
class_of (sort.Number n) = Some class.Number
class_of sort.Nil = Some class.Nil
class_of (sort.Do k) = Some class.Operation
class_of sort.Let = Some class.Let
class_of sort.If = Some class.If
class_of sort.Repeat = Some class.Repeat
class_of sort.Reply = Some class.Reply
class_of sort.Else = Some class.Else
class_of sort.As = Some class.As
class_of sort.Assign = Some class.Assign
class_of (sort.Compare c) = Some class.Comparison
class_of sort.Times = Some class.Times
class_of sort.Plus = Some class.Plus
class_of sort.Minus = Some class.Minus
class_of sort.LeftParen = Some class.LeftParen
class_of sort.RightParen = Some class.RightParen
class_of sort.LeftBrace = Some class.LeftBrace
class_of sort.RightBrace = Some class.RightBrace
class_of sort.Comma = Some class.Comma
class_of sort.Semicolon = Some class.Semicolon
class_of sort.MayUse = None
class_of sort.Nothing = None
class_of sort.Any = None
class_of sort.Long = None
class_of sort.Bad = None
class_of sort.End = None

-- a word of the class
abbrev pub word_of : Class → Sort
word_of class.Table = sort.Table table.Map
word_of class.Handler = sort.Handler
word_of class.Name = sort.Name 0
word_of class.Symbol = sort.Symbol 0
word_of class.Number = sort.Number 0
word_of class.Nil = sort.Nil
word_of class.Operation = sort.Do kind.Get
word_of class.Let = sort.Let
word_of class.If = sort.If
word_of class.Repeat = sort.Repeat
word_of class.Reply = sort.Reply
word_of class.Else = sort.Else
word_of class.As = sort.As
word_of class.Assign = sort.Assign
word_of class.Comparison = sort.Compare compare.Same
word_of class.Times = sort.Times
word_of class.Plus = sort.Plus
word_of class.Minus = sort.Minus
word_of class.LeftParen = sort.LeftParen
word_of class.RightParen = sort.RightParen
word_of class.LeftBrace = sort.LeftBrace
word_of class.RightBrace = sort.RightBrace
word_of class.Comma = sort.Comma
word_of class.Semicolon = sort.Semicolon
word_of class.End = sort.End

-- all classes, in the order in which a sentence lists them
abbrev pub classes : List Class
classes = class.Table ∷ class.Handler ∷ class.Name ∷ class.Symbol ∷ class.Number ∷ class.Nil
    ∷ class.Operation ∷ class.Let ∷ class.If ∷ class.Repeat ∷ class.Reply ∷ class.Else
    ∷ class.As ∷ class.Assign ∷ class.Comparison ∷ class.Times ∷ class.Plus ∷ class.Minus
    ∷ class.LeftParen ∷ class.RightParen ∷ class.LeftBrace ∷ class.RightBrace ∷ class.Comma
    ∷ class.Semicolon ∷ class.End ∷ []

-- how a sentence names a class
abbrev pub text_of : Class → List ℕ
text_of class.Table = codes "`map`, `set`"
text_of class.Handler = codes "`handler`"
text_of class.Name = codes "a name"
text_of class.Symbol = codes "a symbol"
text_of class.Number = codes "a number"
text_of class.Nil = codes "`nil`"
text_of class.Operation = codes "an operation"
text_of class.Let = codes "`let`"
text_of class.If = codes "`if`"
text_of class.Repeat = codes "`repeat`"
text_of class.Reply = codes "`reply`"
text_of class.Else = codes "`else`"
text_of class.As = codes "`as`"
text_of class.Assign = codes "`=`"
text_of class.Comparison = codes "a comparison (`==`, `!=`, `<`, `<=`)"
text_of class.Times = codes "`*`"
text_of class.Plus = codes "`+`"
text_of class.Minus = codes "`-`"
text_of class.LeftParen = codes "`(`"
text_of class.RightParen = codes "`)`"
text_of class.LeftBrace = codes "`{`"
text_of class.RightBrace = codes "`}`"
text_of class.Comma = codes "`,`"
text_of class.Semicolon = codes "`;`"
text_of class.End = codes "the end of the handlers"
