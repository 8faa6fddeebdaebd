use Rattle.session_journal.specs.Journal.{begun, done_operations}
use Rattle.session_journal.proofs.Regroup.{regrouped_replays}
use Rattle.session_journal.proofs.laws.regrouping.Goals as goal

pub returns-clause-replays : goal.returns-clause-replays
returns-clause-replays c = λ ts J r i b. (regrouped_replays (begun J) ts (done_operations J) b i r).replays

pub returns-clause-tables : goal.returns-clause-tables
returns-clause-tables c = λ ts J r i b. (regrouped_replays (begun J) ts (done_operations J) b i r).same
