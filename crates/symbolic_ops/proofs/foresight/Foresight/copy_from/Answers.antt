use Rattle.std.proofs.Common.{rules}
use Rattle.symbolic_ops.proofs.foresight.Foresight.copy_from.Goals as goal

pub returns : goal.returns
returns c = search rules
