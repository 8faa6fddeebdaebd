-- Why a word is refused.
use Rattle.std.specs.Prelude.{ℕ}
use Rattle.syntax_grammar.specs.declared.word.Sort.{Sort}
use Rattle.syntax_grammar.specs.declared.word.Sort.TheVariants as sort
use Rattle.syntax_grammar.specs.declared.word.Word.{Word}
use Rattle.syntax_grammar.specs.Words.{kind_of}
use Rattle.syntax_grammar.specs.declared.refusals.SyntaxRefusal.{SyntaxRefusal}
use Rattle.syntax_grammar.specs.declared.refusals.SyntaxRefusal.TheVariants.{BadByte, Unexpected, NameTooLong}

-- why a word of this sort, which can't come at this place, is refused
abbrev pub refusal_of : Sort → ℕ → SyntaxRefusal
refusal_of sort.Bad at = BadByte at
refusal_of sort.Long at = NameTooLong at
refusal_of s at = Unexpected at (kind_of s)

-- why this word, which can't come where it stands, is refused
abbrev pub refusal : Word → SyntaxRefusal
refusal w = refusal_of w.sort w.at
