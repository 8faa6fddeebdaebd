use Rattle.std.proofs.Common.{◌+◌, arith}
use Rattle.driven_tickets.proofs.Tickets.{ascending-more}
use Rattle.driven_tickets.proofs.open_tickets.OpenTickets.passed.Goals as goal

pub invariant_of-self : goal.invariant_of-self
invariant_of-self c = ascending-more 0 c.self.inside.next (c.self.inside.next + 1) c.self.inside.list.items (omega arith) c.self.invariant

pub returns-clause-ascending : goal.returns-clause-ascending
returns-clause-ascending c = ascending-more 0 c.self.inside.next (c.self.inside.next + 1) c.self.inside.list.items (omega arith) c.self.invariant
