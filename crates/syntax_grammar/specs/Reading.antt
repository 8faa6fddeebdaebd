-- What a reader has still to come.
use Rattle.std.specs.Prelude.{ℕ, ◌+◌, List, ◌∷◌, length, Option, Some, None}
use Rattle.syntax_grammar.specs.declared.tokens.Tokens.{Tokens}
use Rattle.syntax_grammar.specs.declared.word.Word.{Word}
use Rattle.syntax_grammar.specs.Tokens.{pieces}
use Rattle.syntax_grammar.specs.Words.{words, names_behind}

-- The words still to come, the place of the end of the source, the names behind all of the words,
-- and how many names there are now.
pub record Reading : Type 0 where
  pub words : List Word
  pub end : ℕ
  pub names : List (List ℕ)
  pub count : ℕ
  pub home : ℕ

-- the words, behind one that was looked at, if one was
abbrev pub with_ahead : Option Word → List Word → List Word
with_ahead None rest = rest
with_ahead (Some word) rest = word ∷ rest

-- the words still to come
abbrev pub words_left : Option Word → List (List ℕ) → Tokens → List Word
words_left ahead names tokens = with_ahead ahead (words names (pieces 0 tokens.at tokens.rest.now))

-- the names behind all of them
abbrev pub names_left : List (List ℕ) → Tokens → List (List ℕ)
names_left names tokens = names_behind names (pieces 0 tokens.at tokens.rest.now)

-- the place of the end of the source
abbrev pub end_of : Tokens → ℕ
end_of tokens = tokens.at + length tokens.rest.now
