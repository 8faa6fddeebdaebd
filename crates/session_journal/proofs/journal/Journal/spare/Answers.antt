use Rattle.std.proofs.Common.{rules}
use Rattle.session_journal.proofs.journal.Journal.spare.Goals as goal

pub returns : goal.returns
returns c = search rules
