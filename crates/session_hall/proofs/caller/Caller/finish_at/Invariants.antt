use Rattle.session_journal.specs.Script.{declared_with}
use Rattle.session_hall.specs.Callers.{IsCallerOf}
use Rattle.session_hall.specs.Calls.{MayFinish}
use Rattle.session_hall.specs.Names.{script_of}
use Rattle.session_hall.specs.Waits.{OnlyBookLost}
use Rattle.session_hall.proofs.caller.Caller.finish_at.Given as goal

abbrev pub invariant-loop : goal.invariant-loop
invariant-loop g l = record {
  caller : IsCallerOf g.S.Tickets.meaning l.hall l.self;
  may : MayFinish (g.S.Tickets.meaning (script_of l.hall)) l.self (declared_with (g.S.Tickets.meaning (script_of l.hall)) l.site l.values);
  since : OnlyBookLost l.fn.self l.self;
}
