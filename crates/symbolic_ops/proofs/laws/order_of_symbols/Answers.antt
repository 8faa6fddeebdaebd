use Rattle.symbolic_ops.proofs.Orders.{symbol_exact}
use Rattle.symbolic_ops.proofs.laws.order_of_symbols.Goals as goal

pub returns-clause-exact : goal.returns-clause-exact
returns-clause-exact c = symbol_exact
