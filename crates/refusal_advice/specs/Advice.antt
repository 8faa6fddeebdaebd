-- What is advised at a place of a text: line by line.
use Rattle.std.specs.Prelude.{◌≡◌, ◌⊎◌, ℕ, List, [], ◌∷◌}
use Rattle.syntax_grammar.specs.Words.{kind_of}
use Rattle.syntax_grammar.specs.declared.word.Word.{Word}
use Rattle.syntax_grammar.specs.declared.refusals.SyntaxRefusal.{SyntaxRefusal}
use Rattle.syntax_grammar.specs.declared.refusals.SyntaxRefusal.TheVariants.{BadByte, Unexpected, NumberTooLarge, NameTooLong, TooDeep, NoMemory}
use Rattle.refusal_advice.specs.Following.{Stands, AreWanted}
use Rattle.refusal_advice.specs.Sentence.{sentence}
use Rattle.refusal_advice.specs.Token.{IsTokenAt}
use Rattle.refusal_advice.specs.declared.class.Class.{Class}
use Rattle.refusal_advice.specs.declared.stop.Stop.{Stop}

-- The first line is this one; behind it stands help, of which nothing is said.
pub record BeginsWith (first : List ℕ) (lines : List (List ℕ)) : Type 0 where
  pub help : List (List ℕ)
  pub lines_are : lines ≡ first ∷ help

-- the first line on the word that stands at this place names all classes that can follow there, and
-- no other
pub record IsAdvised (source : List ℕ) (at : ℕ) (lines : List (List ℕ)) : Type 0 where
  pub before : List Word
  pub word : Word
  pub token : List ℕ
  pub wanted : List Class
  pub stands : Stands source at before word
  pub token_is : IsTokenAt source at token
  pub exact : AreWanted before wanted
  pub begins : BeginsWith (sentence (kind_of word.sort) token wanted) lines

-- no word stands at this place behind words that begin a text of the grammar
abbrev pub NoneStands : List ℕ → ℕ → Type 0
NoneStands source at = (before : List Word) (w : Word) → Stands source at before w → ⊥

-- what is advised: nothing exactly where no word stands there
abbrev pub IsAdvice : List ℕ → ℕ → List (List ℕ) → Type 0
IsAdvice source at lines = IsAdvised source at lines ⊎ (NoneStands source at × (lines ≡ []))

-- the lines on what the code found
abbrev pub IsStopAdvice : Stop → List ℕ → List (List ℕ) → Type 0
IsStopAdvice s token lines = BeginsWith (sentence (kind_of s.word.sort) token s.wanted.items) lines

-- the place of a fault; want of memory has none
abbrev pub fault_place : SyntaxRefusal → ℕ
fault_place (BadByte at) = at
fault_place (Unexpected at found) = at
fault_place (NumberTooLarge at) = at
fault_place (NameTooLong at) = at
fault_place (TooDeep at) = at
fault_place NoMemory = 0
