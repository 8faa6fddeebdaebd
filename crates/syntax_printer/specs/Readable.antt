-- Texts that are read as the words of a file.
use Rattle.std.specs.Prelude.{◌≡◌, ℕ, List, map}
use Rattle.syntax_grammar.specs.declared.word.Word.{Word}
use Rattle.syntax_grammar.specs.Words.{words_of, names_of}
use Rattle.syntax_trees.specs.declared.file.File.{File}
use Rattle.syntax_printer.specs.CanonicalWords.{canonical_words}

-- the words of the text are those of the file, places aside, and it brings no new name
pub record ReadsBack (names : List (List ℕ)) (file : File) (text : List ℕ) : Type 0 where
  pub same_words : map (λ (w : Word). w.sort) (words_of names text) ≡ canonical_words file
  pub same_names : names_of names text ≡ names
