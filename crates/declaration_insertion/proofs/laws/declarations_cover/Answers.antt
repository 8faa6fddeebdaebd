use Rattle.declaration_insertion.proofs.Whole.{promised}
use Rattle.declaration_insertion.proofs.laws.declarations_cover.Goals as goal

pub returns : goal.returns
returns c = promised
