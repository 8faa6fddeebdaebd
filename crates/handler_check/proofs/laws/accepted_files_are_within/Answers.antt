use Rattle.handler_check.proofs.Codes.{all_within}
use Rattle.handler_check.proofs.Fine.{few_handlers, few_tables}
use Rattle.handler_check.proofs.laws.accepted_files_are_within.Goals as goal

pub returns : goal.returns
returns c = record { handler = all_within; handlers = λ f a. few_handlers f a.keeps; tables = λ f a. few_tables f a.keeps }
