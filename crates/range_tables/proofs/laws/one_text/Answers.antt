use Rattle.range_tables.proofs.OneText.{fine_text, one_text}
use Rattle.range_tables.proofs.laws.one_text.Goals as goal

pub returns-clause-same : goal.returns-clause-same
returns-clause-same c = one_text

pub returns-clause-fine : goal.returns-clause-fine
returns-clause-fine c = fine_text
