use Rattle.session_hall.specs.Callers.{IsCallerOf}
use Rattle.session_hall.specs.Names.{script_of}
use Rattle.session_hall.specs.Stages.{IsInFlight}
use Rattle.session_hall.specs.Waits.{OnlyShardLost}
use Rattle.session_hall.proofs.caller.Caller.apply_with.Given as goal

abbrev pub invariant-loop : goal.invariant-loop
invariant-loop g l = record {
  caller : IsCallerOf g.S.Tickets.meaning l.hall l.self;
  stage : IsInFlight l.self.stage;
  since : OnlyShardLost (g.S.Tickets.meaning (script_of l.hall)) l.hall.sizes.shards l.fn.self l.self;
}
