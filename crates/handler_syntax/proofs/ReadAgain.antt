-- What was printed and parsed is the same tree.
use Rattle.std.proofs.Common.{◌≡◌, ℕ, List, sym, ap, ◌∙◌}
use Rattle.syntax_trees.specs.declared.file.File.{File}
use Rattle.syntax_grammar.specs.Parsed.{IsSourceOf}
use Rattle.syntax_grammar.specs.declared.refusals.SyntaxRefusal.{SyntaxRefusal}
use Rattle.syntax_grammar.specs.declared.refusals.SyntaxRefusal.TheVariants as syntax_refusal
use Rattle.handler_syntax.specs.Keeps.{IsReadAs}
use Rattle.handler_syntax.specs.SameTree.{file_bare, SameTree}

module _ (names : List (List ℕ)) (file : File) (text : List ℕ) (again : IsReadAs names file text) where
  pub read_same : (read : File) → ((g : File) → IsSourceOf names text g → read ≡ g) → SameTree file read
  read_same read only = again.2 ∙ sym (ap file_bare (only again.0 again.1))

  pub refused_same : (e : SyntaxRefusal) → ((g : File) → IsSourceOf names text g → e ≡ syntax_refusal.NoMemory) → e ≡ syntax_refusal.NoMemory
  refused_same e only = only again.0 again.1
