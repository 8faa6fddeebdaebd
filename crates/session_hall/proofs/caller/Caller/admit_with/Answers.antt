use Rattle.std.proofs.Common.{refl, ◌∙◌}
use Rattle.session_hall.specs.Calls.{MayCall}
use Rattle.session_hall.specs.Names.{script_of}
use Rattle.session_hall.specs.Stages.{OnServing}
use Rattle.session_hall.proofs.Tried.{both_same, serving_holds, still_may}
use Rattle.session_hall.proofs.Trying.{delay_may}
use Rattle.session_hall.proofs.Waited.{none_waited, only_delayed, waited_lost, waited_delay}
use Rattle.session_hall.proofs.caller.Caller.admit_with.Goals as goal

pub loop-init : goal.loop-init
loop-init g c =
    let m = g.S.Tickets.meaning (script_of c.args.hall.now) in
    record {
      caller = c.requires.caller;
      may = c.requires.may;
      number_still = refl;
      since = none_waited m c.args.op c.args.self.now _ c.requires.may;
    }

pub loop-preserved-in-Delayed : goal.loop-preserved-in-Delayed
loop-preserved-in-Delayed g c =
    let inv = c.loop.invariant in
    let m = g.S.Tickets.meaning (script_of c.args.hall.now) in
    let may = delay_may m c.args.self.now c.loop.self c.try_admit.new.self c.args.op (only_delayed m c.args.op c.args.self.now c.loop.self inv.since) c.in-Delayed.older c.in-Delayed.symbol c.in-Delayed.ensures.admitted inv.may in
    record {
      caller = c.in-Delayed.ensures.caller.0;
      may = may;
      number_still = c.in-Delayed.ensures.caller.1 ∙ inv.number_still;
      since = waited_delay m c.args.op c.args.self.now c.loop.self c.try_admit.new.self inv.since c.in-Delayed.older c.in-Delayed.symbol c.in-Delayed.ensures.admitted (both_same g.S.Tickets.meaning c.args.hall.now c.loop.self c.try_admit.new.self inv.caller c.in-Delayed.ensures.caller)
          (serving_holds g.S.Tickets.meaning c.args.hall.now c.loop.self inv.caller _ inv.may)
          (serving_holds g.S.Tickets.meaning c.args.hall.now c.try_admit.new.self c.in-Delayed.ensures.caller.0 _ may);
    }

pub loop-preserved : goal.loop-preserved
loop-preserved g c =
    let inv = c.loop.invariant in
    let m = g.S.Tickets.meaning (script_of c.args.hall.now) in
    record {
      caller = c.in-Busy.ensures.caller.0;
      may = still_may m (λ s l b. OnServing s (λ t. MayCall l c.args.op m b t)) c.loop.self c.try_admit.new.self _ _ c.in-Busy.ensures.admitted.1 inv.may;
      number_still = c.in-Busy.ensures.caller.1 ∙ inv.number_still;
      since = waited_lost m c.args.op c.args.self.now c.loop.self c.try_admit.new.self _ _ inv.since (both_same g.S.Tickets.meaning c.args.hall.now c.loop.self c.try_admit.new.self inv.caller c.in-Busy.ensures.caller) c.in-Busy.ensures.admitted inv.may;
    }
