-- The tokens of a source, with what stands between them, are the source.
use Rattle.std.specs.Prelude.{◌≡◌, ◌≢◌, ℕ, List, [], ◌∷◌, ◌++◌}
use Rattle.syntax_grammar.specs.declared.token.Token.{Token}
use Rattle.syntax_grammar.specs.declared.token_kind.TokenKind.TheVariants as kind
use Rattle.syntax_grammar.specs.declared.tokens.Tokens.{Tokens}
use Rattle.syntax_grammar.specs.Gap.{IsGap}
use Rattle.syntax_grammar.specs.Tokens.{Piece, piece_of, pieces}

-- the text is these tokens, in order, with blanks, line feeds and comments before each and behind
-- the last
abbrev pub Spell : List Piece → List ℕ → Type 0
Spell [] text = IsGap text []
Spell (p ∷ ps) text = (rest : List ℕ) × IsGap text (p.text ++ rest) × Spell ps rest

-- the tokens that are still to come, End not among them
abbrev pub tokens_left : Tokens → List Piece
tokens_left t = pieces 0 t.at t.rest.now

-- a token was the first that was to come, or the end, where none was
pub record IsNext (old : Tokens) (token : Token) (new : Tokens) : Type 0 where
  pub first : token.kind ≢ kind.End → tokens_left old ≡ piece_of token ∷ tokens_left new
  pub none : token.kind ≡ kind.End → tokens_left old ≡ []
