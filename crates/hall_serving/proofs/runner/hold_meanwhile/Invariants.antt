use Rattle.std.proofs.Common.{◌≡◌, List, None}
use Rattle.session_values.specs.declared.reply.Reply.{Reply}
use Rattle.session_hall.specs.HoldingCalls.{IsQuiet}
use Rattle.session_hall.specs.Holdings.{IsHoldingOf}
use Rattle.session_hall.specs.Waits.{OnlyBookLost}
use Rattle.hall_serving.specs.KeptJobs.{HasWaited}
use Rattle.hall_serving.proofs.runner.hold_meanwhile.Given as goal

abbrev pub invariant-loop : goal.invariant-loop
invariant-loop g l = record {
  holding : IsHoldingOf g.S.Tickets.meaning l.crew.hall.now l.holding;
  unkept : l.fn.holding.book ≡ None;
  none : l.holding.book ≡ None;
  stage : IsQuiet l.holding.caller.stage;
  since : OnlyBookLost l.fn.holding.caller l.holding.caller;
  takes : (replies : List Reply) → g.A.AfterEnd.Takes replies l.fn.after → g.A.AfterEnd.Takes replies l.after;
  waited : HasWaited g.A.AfterEnd.Given l.fn.after l.after;
}
