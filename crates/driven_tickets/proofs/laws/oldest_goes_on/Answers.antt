use Rattle.driven_tickets.proofs.Delays.{oldest}
use Rattle.driven_tickets.proofs.laws.oldest_goes_on.Goals as goal

pub returns : goal.returns
returns c = oldest
