use Rattle.waiting_pairs.proofs.Counted.{has_row}
use Rattle.waiting_pairs.proofs.count_laws.each_delay_is_counted.Goals as goal

pub returns : goal.returns
returns c = has_row
