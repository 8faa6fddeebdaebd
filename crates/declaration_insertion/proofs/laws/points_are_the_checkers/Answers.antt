use Rattle.declaration_insertion.proofs.SamePoints.{handler_points_same, stmt_points_same}
use Rattle.declaration_insertion.proofs.laws.points_are_the_checkers.Goals as goal

pub returns : goal.returns
returns c = record { statement = stmt_points_same; handler = handler_points_same }
