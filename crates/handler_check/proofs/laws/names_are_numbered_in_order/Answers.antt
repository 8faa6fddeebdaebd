use Rattle.handler_check.proofs.Fine.{tables_in_order, variables_in_order}
use Rattle.handler_check.proofs.laws.names_are_numbered_in_order.Goals as goal

pub returns : goal.returns
returns c = record { variables = variables_in_order; tables = tables_in_order }
