use Rattle.std.proofs.Common.{rules}
use Rattle.symbolic_ops.proofs.laws.order_of_args.Goals as goal

pub returns-clause-written : goal.returns-clause-written
returns-clause-written c = search rules
