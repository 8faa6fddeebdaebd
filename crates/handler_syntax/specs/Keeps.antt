-- What a file of handlers keeps, and what its text is.
use Rattle.std.specs.Prelude.{◌≡◌, ℕ, ◌^◌, List}
use Rattle.syntax_grammar.specs.declared.word.Word.{Word}
use Rattle.syntax_grammar.specs.Texts.{IsNamedFile}
use Rattle.syntax_grammar.specs.Words.{names_of}
use Rattle.syntax_trees.specs.declared.file.File.{File}
use Rattle.syntax_trees.specs.Mentions.{AreBelow, file_mentions}
use Rattle.syntax_grammar.specs.Limits.{IsFileWithin}
use Rattle.syntax_grammar.specs.Parsed.{IsSourceOf}
use Rattle.syntax_printer.specs.Canonical.{canonical_text}
use Rattle.syntax_trees.specs.Rising.{PlacesRise}
use Rattle.handler_syntax.specs.SameTree.{SameTree}

-- Some words within the limits have this tree. So its canonical text is within the limits too:
-- operations have at most two arguments, replies 1 to 4 values, and numbers, blocks, parentheses
-- and operator signs are within theirs.
abbrev pub KeepsLimits : File → Type 0
KeepsLimits tree = (ws : List Word) × IsFileWithin ws tree

-- what a file of handlers keeps
pub record IsKept (tree : File) : Type 0 where
  pub limits : KeepsLimits tree
  -- The places of its parts rise in the order of its text.
  pub rise : PlacesRise tree
  -- The places of its names and symbols are numbers of 32 bits.
  pub places : AreBelow (2 ^ 32) (file_mentions tree)

-- the text is read as the same tree, places aside, and brings no new name
abbrev pub IsReadAs : List (List ℕ) → File → List ℕ → Type 0
IsReadAs names tree text = (g : File) × IsSourceOf names text g × SameTree tree g
    × (names_of names text ≡ names)

-- what printing gives
pub record Printed (names : List (List ℕ)) (file : File) (written : List ℕ) : Type 0 where
  -- It is the canonical text.
  pub text : written ≡ canonical_text names file
  -- Where names and symbols have texts that the language can write, the text is read as the same
  -- tree, places aside, with the same names, if it is no longer than a source may be.
  pub back : IsNamedFile names file → IsReadAs names file written
