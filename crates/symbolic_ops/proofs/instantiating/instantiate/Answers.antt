use Rattle.std.proofs.Common.{rules}
use Rattle.symbolic_ops.proofs.instantiating.instantiate.Goals as goal

pub returns : goal.returns
returns c = search rules
