-- Reserved words and signs.
use Rattle.std.specs.Prelude.{ℕ, Bool, false, ◌||◌, ◌==◌, if◌then◌else◌, List, [], ◌∷◌, map, Option, Some, None, codes}
use Rattle.std.specs.Str.{bytes_eq}
use Rattle.session_values.specs.declared.kind.Kind.{Kind}
use Rattle.session_values.specs.declared.kind.Kind.TheVariants as kind
use Rattle.session_values.specs.declared.kind.TableKind.TheVariants as table
use Rattle.session_values.specs.Kinds.{word_of}
use Rattle.syntax_trees.specs.declared.stmt.Compare.TheVariants as compare
use Rattle.syntax_grammar.specs.declared.word.Sort.{Sort}
use Rattle.syntax_grammar.specs.declared.word.Sort.TheVariants as sort

-- the sort that stands beside the text in a table
abbrev pub sort_in : List (List ℕ × Sort) → List ℕ → Option Sort
sort_in [] text = None
sort_in (row ∷ rows) text = if bytes_eq text row.0 then Some row.1 else sort_in rows text

-- all kinds of operations
abbrev pub kinds : List Kind
kinds = kind.Get ∷ kind.Put ∷ kind.Swap ∷ kind.Del ∷ kind.Size ∷ kind.Bump ∷ kind.Has ∷ kind.Add
    ∷ kind.Mark ∷ kind.Drop ∷ kind.Count ∷ []

-- the word of an operation
abbrev pub operation_row : Kind → List ℕ × Sort
operation_row k = (word_of k, sort.Do k)

-- the words of the operations
abbrev pub operations : List (List ℕ × Sort)
operations = map operation_row kinds

-- the other reserved words
abbrev pub statement_words : List (List ℕ × Sort)
statement_words =
    (codes "map", sort.Table table.Map) ∷ (codes "set", sort.Table table.Set)
    ∷ (codes "handler", sort.Handler) ∷ (codes "let", sort.Let) ∷ (codes "if", sort.If)
    ∷ (codes "else", sort.Else) ∷ (codes "repeat", sort.Repeat) ∷ (codes "as", sort.As)
    ∷ (codes "reply", sort.Reply) ∷ (codes "nil", sort.Nil)
    ∷ (codes "mayuse", sort.MayUse) ∷ (codes "nothing", sort.Nothing) ∷ (codes "any", sort.Any) ∷ []

-- the first sort, or the second one where it is missing
abbrev pub or_else : Option Sort → Option Sort → Option Sort
or_else None other = other
or_else (Some s) other = Some s

-- the operation that the text is
unfoldable pub operation_of : List ℕ → Option Sort
operation_of text = sort_in operations text

-- the other reserved word that the text is
unfoldable pub statement_word_of : List ℕ → Option Sort
statement_word_of text = sort_in statement_words text

-- the reserved word that the text is
unfoldable pub keyword_of : List ℕ → Option Sort
keyword_of text = or_else (statement_word_of text) (operation_of text)

-- the signs
abbrev pub signs : List (List ℕ × Sort)
signs =
    (codes "(", sort.LeftParen) ∷ (codes ")", sort.RightParen) ∷ (codes "{", sort.LeftBrace)
    ∷ (codes "}", sort.RightBrace) ∷ (codes ",", sort.Comma)
    ∷ (codes ";", sort.Semicolon) ∷ (codes "=", sort.Assign)
    ∷ (codes "==", sort.Compare compare.Same) ∷ (codes "!=", sort.Compare compare.Differ)
    ∷ (codes "<", sort.Compare compare.Less)
    ∷ (codes "<=", sort.Compare compare.LessOrSame) ∷ (codes "+", sort.Plus)
    ∷ (codes "-", sort.Minus) ∷ (codes "*", sort.Times) ∷ []

-- the sign that the text is
unfoldable pub sign_of : List ℕ → Option Sort
sign_of text = sort_in signs text

-- a reserved word may have this first byte and this length
abbrev pub may_begin : (first length : ℕ) → Bool
may_begin c n =
    if n == 2 then c == 97 || c == 105
    else if n == 3 then c == 97 || c == 100 || c == 103 || c == 104 || c == 108 || c == 109
    || c == 110 || c == 112 || c == 115
    else if n == 4 then c == 98 || c == 100 || c == 101 || c == 109 || c == 115
    else if n == 5 then c == 99 || c == 114
    else if n == 6 then c == 109 || c == 114
    else if n == 7 then c == 104 || c == 110
    else false
