-- The tokens that `Tokens` gives.
use Rattle.std.specs.Prelude.{◌≡◌, ◌≢◌, ℕ, ◌+◌, ◌++◌, true, false, if◌then◌else◌, length, Option, MatchOption}
use Rattle.syntax_grammar.specs.declared.token.Token.{Token}
use Rattle.syntax_grammar.specs.declared.token_kind.TokenKind.TheVariants as kind
use Rattle.syntax_grammar.specs.declared.tokens.Tokens.{Tokens}
use Rattle.syntax_grammar.specs.Gap.{IsGap}
use Rattle.syntax_grammar.specs.Scan.{gap}
use Rattle.syntax_grammar.specs.Tokens.{Cuts}

-- The token is the first behind the gap, where only blanks, line feeds and comments stand, and what
-- is new goes on behind it, or has ended where it is End.
pub record Gives (old : Tokens) (token : Token) (new : Tokens) : Type 0 where
  pub more : old.ended ≡ false
  pub cut : Cuts old.rest.now token.kind token.text.now new.rest.now
  pub between : IsGap old.rest.now (token.text.now ++ new.rest.now)
  pub start : token.start ≡ old.at + gap false old.rest.now
  pub end : token.end ≡ token.start + length token.text.now
  pub at : new.at ≡ token.end
  pub over : token.kind ≡ kind.End → new.ended ≡ true
  pub goes_on : token.kind ≢ kind.End → new.ended ≡ false

-- a call gives the next token, or nothing once End was given
abbrev pub Steps : Tokens → Option Token → Tokens → Type 0
Steps old given new = MatchOption given ((old.ended ≡ true) × (new ≡ old))
    (λ token. Gives old token new)

-- at most so many tokens are left
abbrev pub left : Tokens → ℕ
left tokens = if tokens.ended then 0 else length tokens.rest.now + 1
