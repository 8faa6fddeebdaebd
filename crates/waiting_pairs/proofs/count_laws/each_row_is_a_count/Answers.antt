use Rattle.waiting_pairs.proofs.Counted.{is_count}
use Rattle.waiting_pairs.proofs.count_laws.each_row_is_a_count.Goals as goal

pub returns : goal.returns
returns c = is_count
