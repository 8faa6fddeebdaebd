use Rattle.syntax_trees.specs.Mentions.{file_mentions}
use Rattle.syntax_grammar.proofs.Said.{texts_kept}
use Rattle.handler_syntax.proofs.laws.names_stay_readable.Goals as goal

pub returns : goal.returns
returns c = λ old new file b h. texts_kept old new b (file_mentions file) h
