use Rattle.range_tables.proofs.SomeText.{some_text}
use Rattle.range_tables.proofs.laws.some_text.Goals as goal

pub returns : goal.returns
returns c = some_text
