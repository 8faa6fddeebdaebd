use Rattle.syntax_grammar.specs.Words.{names_of}
use Rattle.syntax_trees.specs.Mentions.{file_mentions}
use Rattle.syntax_grammar.proofs.Said.{source_readable, have_texts, texts_below}
use Rattle.handler_syntax.proofs.laws.what_is_read_is_printable.Goals as goal

pub returns-clause-named : goal.returns-clause-named
returns-clause-named c = λ names source file within.
    let all = names_of names source in
    texts_below all (file_mentions file) (have_texts all (file_mentions file) (source_readable names source file within))

pub returns-clause-readable : goal.returns-clause-readable
returns-clause-readable c = λ names source file within. have_texts (names_of names source) (file_mentions file) (source_readable names source file within)
