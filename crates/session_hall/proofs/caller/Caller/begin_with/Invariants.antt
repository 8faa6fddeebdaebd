use Rattle.session_hall.specs.Callers.{IsCallerOf}
use Rattle.session_hall.specs.Stages.{IsBetween}
use Rattle.session_hall.specs.Waits.{OnlyBookLost}
use Rattle.session_hall.proofs.caller.Caller.begin_with.Given as goal

abbrev pub invariant-loop : goal.invariant-loop
invariant-loop g l = record {
  caller : IsCallerOf g.S.Tickets.meaning l.hall l.self;
  stage : IsBetween l.self.stage;
  since : OnlyBookLost l.fn.self l.self;
}
