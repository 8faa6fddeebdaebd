use Rattle.waiting_pairs.proofs.Exact.{each_told}
use Rattle.waiting_pairs.proofs.laws.each_wait_is_told.Goals as goal

pub returns : goal.returns
returns c = each_told
