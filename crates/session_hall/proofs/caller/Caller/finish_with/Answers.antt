use Rattle.session_hall.specs.Calls.{MayFinishAt}
use Rattle.session_hall.specs.Names.{script_of}
use Rattle.session_hall.proofs.Tried.{both_same, none_tried, one_tried, still_may}
use Rattle.session_hall.proofs.caller.Caller.finish_with.Goals as goal

pub loop-init : goal.loop-init
loop-init g c = record { caller = c.requires.caller; may = c.requires.may; since = none_tried c.args.self.now }

pub loop-preserved : goal.loop-preserved
loop-preserved g c =
    let inv = c.loop.invariant in
    let m = g.S.Tickets.meaning (script_of c.args.hall.now) in
    record {
      caller = c.in-Busy.ensures.caller.0;
      may = still_may m (λ s l b. MayFinishAt m s l b c.args.next.now.symbols) c.loop.self c.try_finish.new.self _ _ c.in-Busy.ensures.finished.1 inv.may;
      since = one_tried m c.args.self.now c.loop.self c.try_finish.new.self _ inv.since (both_same g.S.Tickets.meaning c.args.hall.now c.loop.self c.try_finish.new.self inv.caller c.in-Busy.ensures.caller) c.in-Busy.ensures.finished;
    }
