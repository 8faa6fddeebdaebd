use Rattle.session_hall.specs.Holdings.{StaysHolding}
use Rattle.hall_serving.specs.KeptCalls.{SameTicket}
use Rattle.hall_serving.proofs.kept_calls.admit.Given as goal

abbrev pub invariant-loop : goal.invariant-loop
invariant-loop g l = record {
  holding : StaysHolding g.S.Tickets.meaning l.hall l.fn.holding l.holding;
  same : SameTicket l.fn.holding l.holding;
}
