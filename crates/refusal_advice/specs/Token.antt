-- The text of a token.
use Rattle.std.specs.Prelude.{◌≡◌, ◌⊎◌, ℕ, false, List, [], take, drop}
use Rattle.std.specs.Str.{IsCharBoundary}
use Rattle.syntax_grammar.specs.Scan.{gap, scan}

-- the text of the first token, behind blanks, line feeds and comments
abbrev pub first_token : List ℕ → List ℕ
first_token text =
    let rest = drop (gap false text) text in
    take (scan rest).1 rest

-- the text of the token at a place; a place inside a character has none
abbrev pub IsTokenAt : List ℕ → ℕ → List ℕ → Type 0
IsTokenAt source at token =
    (IsCharBoundary source at × (token ≡ first_token (drop at source)))
    ⊎ ((IsCharBoundary source at → ⊥) × (token ≡ []))
