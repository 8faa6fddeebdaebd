-- Each arrival is a request that its client has.
use Rattle.client_feed.proofs.Drawn.{exist}
use Rattle.client_feed.proofs.laws.arrivals_exist.Goals as goal

pub returns : goal.returns
returns c = exist
