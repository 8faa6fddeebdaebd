use Rattle.request_files.proofs.RowFaults.{names_no_handler, unknown_refused}
use Rattle.request_files.proofs.laws.handlers_are_named.Goals as goal

pub returns-clause-told : goal.returns-clause-told
returns-clause-told c = names_no_handler

pub returns-clause-refused : goal.returns-clause-refused
returns-clause-refused c = unknown_refused
