use Rattle.std.proofs.Common.{rules}
use Rattle.session_journal.proofs.journal.Journal.push_reserved.Goals as goal

pub returns : goal.returns
returns c = search rules
