use Rattle.session_values.proofs.Openings.{entries_few, opening_kinds, opening_size, opening_values}
use Rattle.session_values.proofs.opening_laws.tables_open.Goals as goal

pub returns-clause-kinds : goal.returns-clause-kinds
returns-clause-kinds c = opening_kinds

pub returns-clause-values : goal.returns-clause-values
returns-clause-values c = opening_values

pub returns-clause-sizes : goal.returns-clause-sizes
returns-clause-sizes c = opening_size

pub returns-clause-few : goal.returns-clause-few
returns-clause-few c = entries_few
