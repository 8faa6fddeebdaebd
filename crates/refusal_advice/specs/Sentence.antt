-- The sentence: what was found, and what is wanted there.
use Rattle.std.specs.Prelude.{ℕ, Bool, true, false, if◌then◌else◌, List, [], ◌∷◌, ◌++◌, codes}
use Rattle.syntax_grammar.specs.declared.token_kind.TokenKind.{TokenKind}
use Rattle.syntax_grammar.specs.declared.token_kind.TokenKind.TheVariants as kind
use Rattle.refusal_advice.specs.Classes.{text_of}
use Rattle.refusal_advice.specs.declared.class.Class.{Class}

-- what stands before a token's text
abbrev pub before_token : TokenKind → List ℕ
before_token kind.Name = codes "name `"
before_token kind.Key = codes "reserved word `"
before_token kind.Symbol = codes "symbol `"
before_token kind.Number = codes "number `"
before_token kind.Sign = codes "`"
before_token kind.Bad = codes "`"
before_token kind.Long = codes "name of more than 64 bytes"
before_token kind.End = codes "end of the handlers"

-- the text of a token is told, unless it is long or the end
abbrev pub has_text : TokenKind → Bool
has_text kind.Long = false
has_text kind.End = false
has_text kind.Name = true
has_text kind.Key = true
has_text kind.Symbol = true
has_text kind.Number = true
has_text kind.Sign = true
has_text kind.Bad = true

-- what was found
abbrev pub found_text : TokenKind → List ℕ → List ℕ
found_text k token = before_token k ++ (if has_text k then token ++ 96 ∷ [] else [])

-- `or` before the last one, a comma before the others
abbrev pub link : List Class → List ℕ
link [] = codes " or "
link (c ∷ cs) = codes ", "

-- classes behind another
abbrev pub more_text : List Class → List ℕ
more_text [] = []
more_text (c ∷ cs) = link cs ++ text_of c ++ more_text cs

-- a list of classes
abbrev pub wanted_text : List Class → List ℕ
wanted_text [] = codes "nothing"
wanted_text (c ∷ cs) = text_of c ++ more_text cs

abbrev pub sentence : TokenKind → List ℕ → List Class → List ℕ
sentence k token wanted =
    codes "unexpected " ++ found_text k token ++ codes ": " ++ wanted_text wanted
    ++ codes " is wanted here"
