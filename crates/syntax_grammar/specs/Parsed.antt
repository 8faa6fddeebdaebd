-- What reading a source answers and leaves.
use Rattle.std.specs.Prelude.{◌≡◌, ◌≢◌, ◌≤◌, ℕ, ◌+◌, ◌⊎◌, List, length, Result, IfOk, OnOk, IfErr, MatchResult}
use Rattle.session_values.specs.Names.{Begins}
use Rattle.syntax_trees.specs.declared.file.File.{File}
use Rattle.syntax_trees.specs.Mentions.{AreNamed, file_mentions}
use Rattle.syntax_grammar.specs.Texts.{IsNamedFile}
use Rattle.syntax_grammar.specs.Words.{words_of, names_of}
use Rattle.syntax_grammar.specs.FirstFault.{IsFirstFault}
use Rattle.syntax_grammar.specs.Limits.{IsFileWithin}
use Rattle.syntax_grammar.specs.declared.refusals.SyntaxRefusal.{SyntaxRefusal}
use Rattle.syntax_grammar.specs.declared.refusals.SyntaxRefusal.TheVariants.{NoMemory}

-- the source, read behind these names, is a file within the limits, with this tree
abbrev pub IsSourceOf : List (List ℕ) → List ℕ → File → Type 0
IsSourceOf names source file = IsFileWithin (words_of names source) file

-- the source has this first fault
abbrev pub HasFault : List (List ℕ) → List ℕ → SyntaxRefusal → Type 0
HasFault names source e = IsFirstFault (length source) (words_of names source) e

-- a source is read behind the old names: what is answered, and the names that are left
pub record Parsed (old : List (List ℕ)) (source : List ℕ) (result : Result File SyntaxRefusal)
    (new : List (List ℕ)) : Type 0 where
  -- The source is a file of the grammar, within its limits, and this is its tree.
  pub ok : IfOk result (IsSourceOf old source)
  -- Such a file is read, unless memory runs out, and it has no other tree.
  pub only : (file : File) → IsSourceOf old source file
      → MatchResult result (λ read. read ≡ file) (λ e. e ≡ NoMemory)
  -- What is refused has its first fault here.
  pub refused : IfErr result (λ e. e ≢ NoMemory → HasFault old source e)
  -- A source with a first fault is refused for it, unless memory runs out.
  pub fault : (e : SyntaxRefusal) → HasFault old source e
      → MatchResult result (λ file. ⊥) (λ r. (r ≡ e) ⊎ (r ≡ NoMemory))
  -- The names are the old ones and the new texts, in the order of their first appearance.
  pub names : OnOk result (new ≡ names_of old source)
  -- After a refusal too the old ones stand first.
  pub kept : Begins old new
  pub few : length new ≤ length old + length source
  -- Each name and each symbol has a text that the language can write.
  pub named : IfOk result (IsNamedFile new)
  -- The file can be printed with these names.
  pub printable : IfOk result (λ file. AreNamed new (file_mentions file))
