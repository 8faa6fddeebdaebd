use Rattle.declaration_insertion.proofs.Values.{instantiated}
use Rattle.declaration_insertion.proofs.laws.declarations_with_values.Goals as goal

pub returns : goal.returns
returns c = instantiated
