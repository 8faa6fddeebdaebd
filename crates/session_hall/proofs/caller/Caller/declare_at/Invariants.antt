use Rattle.session_journal.specs.Script.{declared_with}
use Rattle.session_hall.specs.Callers.{IsCallerOf, foresight_of}
use Rattle.session_hall.specs.Calls.{ByNote, MayDeclare}
use Rattle.session_hall.specs.Names.{script_of}
use Rattle.session_hall.specs.Waits.{OnlyBookLost}
use Rattle.session_hall.proofs.caller.Caller.declare_at.Given as goal

abbrev pub invariant-loop : goal.invariant-loop
invariant-loop g l = record {
  caller : IsCallerOf g.S.Tickets.meaning l.hall l.self;
  may : ByNote (g.S.Tickets.meaning (script_of l.hall)) l.self (MayDeclare (foresight_of l.self) (declared_with (g.S.Tickets.meaning (script_of l.hall)) l.site l.values));
  since : OnlyBookLost l.fn.self l.self;
}
