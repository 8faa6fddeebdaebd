use Rattle.waiting_pairs.proofs.Counted.{no_two}
use Rattle.waiting_pairs.proofs.count_laws.no_cause_has_two_rows.Goals as goal

pub returns : goal.returns
returns c = no_two
