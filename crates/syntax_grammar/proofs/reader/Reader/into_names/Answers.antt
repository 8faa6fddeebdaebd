use Rattle.syntax_grammar.proofs.ReaderLemmas.{begins_left, all_left}
use Rattle.syntax_grammar.proofs.reader.Reader.into_names.Goals as goal

pub returns-clause-front : goal.returns-clause-front
returns-clause-front c =
    rw (← c.self.view_is) (begins_left c.self.inside.names.now c.self.inside.tokens)

pub returns-clause-all : goal.returns-clause-all
returns-clause-all c =
    rw (← c.self.view_is) (all_left c.self.inside.ahead c.self.inside.names.now c.self.inside.tokens)
