use Rattle.std.proofs.Common.{◌≡◌, None, take}
use Rattle.driven_tickets.specs.Tickets.{declared_in}
use Rattle.driven_tickets.proofs.place.place_of.Given as goal

abbrev pub invariant-loop-i : goal.invariant-loop-i
invariant-loop-i l = declared_in (take l.i l.tickets) l.ticket ≡ None
