use Rattle.std.proofs.Common.{rules}
use Rattle.session_values.proofs.laws.order_of_kinds.Goals as goal

pub returns-clause-written : goal.returns-clause-written
returns-clause-written c = search rules
