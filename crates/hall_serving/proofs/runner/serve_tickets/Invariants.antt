use Rattle.session_values.specs.Serial.{serial_replies}
use Rattle.session_journal.specs.Script.{session_of}
use Rattle.session_hall.specs.Holdings.{StaysHolding}
use Rattle.session_hall.specs.Stages.{IsBetween}
use Rattle.hall_serving.specs.KeptJobs.{HasGiven, SeesAndGives}
use Rattle.hall_serving.proofs.runner.serve_tickets.Given as goal

abbrev pub invariant-loop : goal.invariant-loop
invariant-loop g l = record {
  holding : StaysHolding g.S.Tickets.meaning l.crew.hall.now l.fn.holding l.holding;
  between : IsBetween l.holding.caller.stage;
  takes : g.A.AfterEnd.Takes (serial_replies (session_of (g.S.Tickets.meaning l.crew.plan.now)) (g.S.Tickets.meaning l.crew.plan.now).requests) l.after;
  given : HasGiven (SeesAndGives g.A.AfterEnd.Seen g.A.AfterEnd.Given) l.fn.holding l.holding l.fn.after l.after;
}
