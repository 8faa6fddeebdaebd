use Rattle.syntax_grammar.proofs.WordKinds.{kinds_of_words}
use Rattle.handler_syntax.proofs.laws.found_is_the_kind_of_the_token.Goals as goal

pub returns : goal.returns
returns c = kinds_of_words
