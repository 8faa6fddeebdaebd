use Rattle.session_values.proofs.Openings.{no_entries_are, no_opening, start_is}
use Rattle.session_values.proofs.opening_laws.no_entries_open.Goals as goal

pub returns-clause-start : goal.returns-clause-start
returns-clause-start c = start_is

pub returns-clause-opening : goal.returns-clause-opening
returns-clause-opening c = no_opening

pub returns-clause-lists : goal.returns-clause-lists
returns-clause-lists c = no_entries_are
