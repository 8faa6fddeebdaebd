-- Once as many arrived as there are requests, all are there.
use Rattle.client_feed.proofs.Drawn.{all}
use Rattle.client_feed.proofs.laws.all_arrived.Goals as goal

pub returns : goal.returns
returns c = all
