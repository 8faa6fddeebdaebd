use Rattle.std.proofs.Common.{◌≡◌, None}
use Rattle.session_hall.specs.HoldingCalls.{IsQuiet}
use Rattle.session_hall.specs.Holdings.{IsHoldingOf}
use Rattle.session_hall.specs.Waits.{OnlyBookLost}
use Rattle.session_hall.proofs.holding.Holding.hold_with.Given as goal

abbrev pub invariant-loop : goal.invariant-loop
invariant-loop g l = record {
  holding : IsHoldingOf g.S.Tickets.meaning l.hall l.self;
  none : l.self.book ≡ None;
  stage : IsQuiet l.self.caller.stage;
  since : OnlyBookLost l.fn.self.caller l.self.caller;
}
