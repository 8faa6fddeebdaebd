-- What stands at a place of a text, and what could stand there by the grammar.
use Rattle.std.specs.Prelude.{◌≡◌, ◌↔◌, ℕ, Bool, true, List, [], ◌∷◌, ◌++◌, length, Option, Some, None}
use Rattle.std.specs.List.{filter}
use Rattle.syntax_grammar.specs.Words.{words_of}
use Rattle.syntax_grammar.specs.declared.word.Sort.{Sort}
use Rattle.syntax_grammar.specs.declared.word.Sort.TheVariants as sort
use Rattle.syntax_grammar.specs.declared.word.Word.{Word}
use Rattle.syntax_grammar.specs.Phrase.{word}
use Rattle.syntax_grammar.specs.FirstFault.{IsText, BeginsText}
use Rattle.refusal_advice.specs.Classes.{classes, class_of}
use Rattle.refusal_advice.specs.declared.class.Class.{Class}
use Rattle.refusal_advice.specs.declared.class.Class.TheVariants as class
use Rattle.refusal_advice.specs.declared.stop.Stop.{Stop}

-- the words of a text, and the end behind them
abbrev pub all_words : List ℕ → List Word
all_words source = words_of [] source ++ word sort.End (length source) ∷ []

-- The word stands at this place of the text, or the end does, behind these words, with which some
-- text of the grammar begins.
pub record Stands (source : List ℕ) (at : ℕ) (before : List Word) (w : Word) : Type 0 where
  pub after : List Word
  pub whole : all_words source ≡ before ++ w ∷ after
  pub place : w.at ≡ at
  pub begun : BeginsText before

-- some text of the grammar begins with these words, and goes on with such a word
abbrev pub CanFollow : List Word → Sort → Type 0
CanFollow before s = (at : ℕ) × BeginsText (before ++ word s at ∷ [])

-- These are the classes of the words that can follow, in the order in which a sentence lists them:
-- each word of a class that is listed can follow, none of another class can, and the end is listed
-- where these words are a whole text.
pub record AreWanted (before : List Word) (wanted : List Class) : Type 0 where
  pub test : Class → Bool
  pub listed : wanted ≡ filter test classes
  pub words : (s : Sort) (c : Class) → class_of s ≡ Some c → (test c ≡ true) ↔ CanFollow before s
  pub others : (s : Sort) → class_of s ≡ None → CanFollow before s → ⊥
  pub end : (test class.End ≡ true) ↔ IsText before

-- the last of some words, if there is one
abbrev pub last_of : List Word → Option Sort
last_of [] = None
last_of (w ∷ []) = Some w.sort
last_of (w ∷ v ∷ ws) = last_of (v ∷ ws)

-- what was found at a place, behind which word, and what could stand there
pub record IsStop (source : List ℕ) (at : ℕ) (s : Stop) : Type 0 where
  pub before : List Word
  pub stands : Stands source at before s.word
  pub last : s.last ≡ last_of before
  pub wanted : AreWanted before s.wanted.items

-- nothing is told exactly where no word stands at the place behind words that begin a text
abbrev pub IsStopAt : List ℕ → ℕ → Option Stop → Type 0
IsStopAt source at None = (before : List Word) (w : Word) → Stands source at before w → ⊥
IsStopAt source at (Some s) = IsStop source at s
