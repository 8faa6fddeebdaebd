use Rattle.std.proofs.Common.{sym, subst}
use Rattle.session_hall.specs.Names.{script_of}
use Rattle.session_hall.specs.Stages.{IsBetween}
use Rattle.session_hall.proofs.Tried.{both_same, none_tried, one_tried}
use Rattle.session_hall.proofs.caller.Caller.begin_with.Goals as goal

pub loop-init : goal.loop-init
loop-init g c = record { caller = c.requires.caller; stage = c.requires.stage; since = none_tried c.args.self.now }

pub loop-preserved : goal.loop-preserved
loop-preserved g c =
    let inv = c.loop.invariant in
    let m = g.S.Tickets.meaning (script_of c.args.hall.now) in
    record {
      caller = c.in-Busy.ensures.caller.0;
      stage = subst (λ s. IsBetween s) (sym c.in-Busy.ensures.began.1.stage_still) inv.stage;
      since = one_tried m c.args.self.now c.loop.self c.try_begin.new.self _ inv.since (both_same g.S.Tickets.meaning c.args.hall.now c.loop.self c.try_begin.new.self inv.caller c.in-Busy.ensures.caller) c.in-Busy.ensures.began;
    }
