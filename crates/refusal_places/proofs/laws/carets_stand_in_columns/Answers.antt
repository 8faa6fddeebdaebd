use Rattle.refusal_places.proofs.LineFronts.{in_column}
use Rattle.refusal_places.proofs.laws.carets_stand_in_columns.Goals as goal

pub returns : goal.returns
returns c = in_column
