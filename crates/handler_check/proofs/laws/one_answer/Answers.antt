use Rattle.handler_check.proofs.ExcessLemmas.{some_answer, one_answer, not_both, never_memory}
use Rattle.handler_check.proofs.laws.one_answer.Goals as goal

pub returns : goal.returns
returns c = record { some = some_answer; one = one_answer; either = not_both; certain = never_memory }
