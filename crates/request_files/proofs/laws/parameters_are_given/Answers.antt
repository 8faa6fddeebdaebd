use Rattle.request_files.proofs.RowFaults.{differs_in_arity, arity_refused}
use Rattle.request_files.proofs.laws.parameters_are_given.Goals as goal

pub returns-clause-told : goal.returns-clause-told
returns-clause-told c = differs_in_arity

pub returns-clause-refused : goal.returns-clause-refused
returns-clause-refused c = arity_refused
