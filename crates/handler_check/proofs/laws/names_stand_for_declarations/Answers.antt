use Rattle.handler_check.proofs.Fine.{stands_for_table}
use Rattle.handler_check.proofs.Meaning.{stands_for}
use Rattle.handler_check.proofs.laws.names_stand_for_declarations.Goals as goal

pub returns : goal.returns
returns c = record { variables = stands_for; tables = stands_for_table }
