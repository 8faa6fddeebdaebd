use Rattle.driven_tickets.proofs.Begun.{never_delayed}
use Rattle.driven_tickets.proofs.Delays.{commuting}
use Rattle.driven_tickets.proofs.laws.commuting_go_on.Goals as goal

pub returns-clause-now : goal.returns-clause-now
returns-clause-now c = commuting

pub returns-clause-ever : goal.returns-clause-ever
returns-clause-ever c = never_delayed
