use Rattle.syntax_grammar.proofs.Longest.{first_token}
use Rattle.syntax_grammar.proofs.OneToken.{nil_is_bad, one_token}
use Rattle.handler_syntax.proofs.laws.tokens_are_the_longest.Goals as goal

pub returns : goal.returns
returns c = record { first = first_token; one = one_token; nil = nil_is_bad }
