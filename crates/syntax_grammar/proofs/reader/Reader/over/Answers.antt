use Rattle.syntax_grammar.proofs.ReaderLemmas.{begins_left}
use Rattle.syntax_grammar.proofs.WordsNamed.{text_named, text_goes_on}
use Rattle.syntax_grammar.proofs.reader.Reader.over.Goals as goal

pub returns-clause-front : goal.returns-clause-front
returns-clause-front c = begins_left c.args.names.now c.over.result

pub returns-clause-named : goal.returns-clause-named
returns-clause-named c = text_named c.args.names.now c.over.result.at c.over.result.rest.now

pub returns-clause-no_end : goal.returns-clause-no_end
returns-clause-no_end c = text_goes_on c.args.names.now c.over.result.at c.over.result.rest.now
