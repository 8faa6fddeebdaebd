use Rattle.std.proofs.Common.{◌≡◌}
use Rattle.session_hall.specs.Callers.{IsCallerOf, foresight_of}
use Rattle.session_hall.specs.Calls.{ByNote, MayCall}
use Rattle.session_hall.specs.Names.{script_of}
use Rattle.session_hall.specs.Waits.{OnlyWaited}
use Rattle.session_hall.specs.Stages.{OnServing}
use Rattle.session_hall.proofs.caller.Caller.admit_with.Given as goal

abbrev pub invariant-loop : goal.invariant-loop
invariant-loop g l = record {
  caller : IsCallerOf g.S.Tickets.meaning l.hall l.self;
  may : ByNote (g.S.Tickets.meaning (script_of l.hall)) l.self (MayCall (foresight_of l.self) l.op);
  number_still : l.self.number ≡ l.fn.self.number;
  since : OnServing l.fn.self.stage (OnlyWaited (g.S.Tickets.meaning (script_of l.hall)) l.op l.fn.self l.self);
}
