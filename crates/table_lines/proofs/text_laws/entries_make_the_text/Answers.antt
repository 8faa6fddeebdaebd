use Rattle.table_lines.proofs.Listing.{entries_sorted, written_is}
use Rattle.table_lines.proofs.text_laws.entries_make_the_text.Goals as goal

pub returns-clause-written : goal.returns-clause-written
returns-clause-written c = written_is

pub returns-clause-sorted : goal.returns-clause-sorted
returns-clause-sorted c = entries_sorted
