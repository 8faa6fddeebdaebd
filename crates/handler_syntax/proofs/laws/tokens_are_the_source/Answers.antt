use Rattle.syntax_grammar.proofs.Spelled.{source_spelled, is_next}
use Rattle.handler_syntax.proofs.laws.tokens_are_the_source.Goals as goal

pub returns-clause-spelled : goal.returns-clause-spelled
returns-clause-spelled c = source_spelled

pub returns-clause-next : goal.returns-clause-next
returns-clause-next c = is_next
