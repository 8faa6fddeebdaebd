-- Where words leave the grammar or its limits, in the grammar's own words.
use Rattle.std.specs.Prelude.{◌≡◌, ℕ, true, List, [], ◌∷◌, ◌++◌, ◌⊎◌}
use Rattle.syntax_grammar.specs.declared.word.Word.{Word}
use Rattle.syntax_grammar.specs.declared.word.Sort.TheVariants as sort
use Rattle.syntax_trees.specs.declared.file.File.{File}
use Rattle.syntax_grammar.specs.declared.refusals.SyntaxRefusal.{SyntaxRefusal}
use Rattle.syntax_grammar.specs.Refusal.{refusal}
use Rattle.syntax_grammar.specs.Bounds.{Limit, limit_refusal}
use Rattle.syntax_grammar.specs.Marked.{Marked, limited, all_fine, file_marked}
use Rattle.syntax_grammar.specs.Phrase.{word, FilePhrase, file_words}
use Rattle.syntax_grammar.specs.Limits.{FileFits}
use Rattle.syntax_grammar.specs.Tree.{file_tree}

-- ---- texts of the grammar

-- the words are those of a file, with this tree
abbrev pub IsFile : List Word → File → Type 0
IsFile ws file = (p : FilePhrase) × (ws ≡ file_words p []) × (file ≡ file_tree p)

-- the words are those of some file
abbrev pub IsText : List Word → Type 0
IsText ws = (p : FilePhrase) × (ws ≡ file_words p [])

-- some text of the grammar begins with these words
abbrev pub BeginsText : List Word → Type 0
BeginsText ws = (more : List Word) × IsText (ws ++ more)

-- some file within the limits begins with these words
abbrev pub BeginsFileWithin : List Word → Type 0
BeginsFileWithin ws = (p : FilePhrase) × (more : List Word) × (ws ++ more ≡ file_words p [])
    × FileFits p

-- ---- limits

-- A text of the grammar begins with these words, none of which breaks a limit, and goes on with
-- marked ones.
pub record GoesOn (before : List Word) (more : List Marked) : Type 0 where
  pub phrase : FilePhrase
  pub marked : file_marked phrase ≡ all_fine before more

-- some text of the grammar begins with these words, none of which breaks a limit
pub record IsWithinLimits (before : List Word) : Type 0 where
  pub more : List Marked
  pub text : GoesOn before more

-- behind these words, none of which breaks a limit, the word breaks this one
pub record Breaks (before : List Word) (w : Word) (limit : Limit) : Type 0 where
  pub more : List Marked
  pub text : GoesOn before (limited limit true w ∷ more)

-- ---- the first fault

-- no text of the grammar begins with the words up to this one
pub record IsUnexpected (before : List Word) (w : Word) (e : SyntaxRefusal) : Type 0 where
  pub none : BeginsText (before ++ w ∷ []) → ⊥
  pub refusal_is : e ≡ refusal w

-- One does, but none within the limits, since this word breaks a limit, as the first one.
pub record IsOverLimit (before : List Word) (w : Word) (e : SyntaxRefusal) : Type 0 where
  pub begun : BeginsText (before ++ w ∷ [])
  pub none_within : BeginsFileWithin (before ++ w ∷ []) → ⊥
  pub limit : Limit
  pub breaks : Breaks before w limit
  pub refusal_is : e ≡ limit_refusal limit w.at

-- the first fault stands at a word
pub record FaultAtWord (ws : List Word) (e : SyntaxRefusal) : Type 0 where
  pub before : List Word
  pub at : Word
  pub after : List Word
  pub words_are : ws ≡ before ++ at ∷ after
  pub begun : BeginsText before
  pub within : IsWithinLimits before
  pub fault : IsUnexpected before at e ⊎ IsOverLimit before at e

-- it stands at the end of words that are no whole text
pub record FaultAtEnd (end : ℕ) (ws : List Word) (e : SyntaxRefusal) : Type 0 where
  pub begun : BeginsText ws
  pub unfinished : IsText ws → ⊥
  pub within : IsWithinLimits ws
  pub fault : e ≡ refusal (word sort.End end)

abbrev pub IsFirstFault : ℕ → List Word → SyntaxRefusal → Type 0
IsFirstFault end ws e = FaultAtWord ws e ⊎ FaultAtEnd end ws e
