use Rattle.session_hall.specs.Names.{script_of}
use Rattle.session_hall.proofs.Tried.{both_same, flight_still, no_shard_tried, one_shard_tried}
use Rattle.session_hall.proofs.caller.Caller.apply_with.Goals as goal

pub loop-init : goal.loop-init
loop-init g c = record { caller = c.requires.caller; stage = c.requires.stage; since = no_shard_tried (g.S.Tickets.meaning (script_of c.args.hall.now)) c.args.hall.now.sizes.shards c.args.self.now }

pub loop-preserved : goal.loop-preserved
loop-preserved g c =
    let inv = c.loop.invariant in
    let m = g.S.Tickets.meaning (script_of c.args.hall.now) in
    let shards = c.args.hall.now.sizes.shards in
    record {
      caller = c.in-Busy.ensures.caller.0;
      stage = flight_still m shards c.loop.self c.try_apply.new.self c.in-Busy.turn c.in-Busy.ensures.applied;
      since = one_shard_tried m shards c.args.self.now c.loop.self c.try_apply.new.self c.in-Busy.turn inv.since (both_same g.S.Tickets.meaning c.args.hall.now c.loop.self c.try_apply.new.self inv.caller c.in-Busy.ensures.caller) c.in-Busy.ensures.applied;
    }
