-- The balance of the rule, at a ticket.
use Rattle.std.proofs.Common.{◌==◌, cond}
use Rattle.hall_writing.proofs.Carrying.{most_taken}
use Rattle.hall_writing.proofs.laws.nothing_twice.Goals as goal

pub returns : goal.returns
returns c = record { times = λ items ends t h. h.balance (λ m. cond (m.ticket == t) 1 0); most = most_taken }
