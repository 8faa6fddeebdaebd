use Rattle.waiting_pairs.proofs.Deciding.{on_one_key}
use Rattle.waiting_pairs.proofs.laws.waits_have_one_key.Goals as goal

pub returns : goal.returns
returns c = λ a b f g p q n. (on_one_key a b f g n).key p q
