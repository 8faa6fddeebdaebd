use Rattle.std.proofs.Common.{◌∙◌}
use Rattle.session_hall.specs.Names.{script_of}
use Rattle.hall_serving.proofs.Again.{busy_same, flies_again, flies_stage, flown, free_again, called_flying, is_in_flight, kept_still, launched_flies, launched_none, may_again, present_still, worked_called, worked_still}
use Rattle.hall_serving.proofs.kept_calls.apply_in_hand.Goals as goal

pub returns-in-Done-clause-called : goal.returns-in-Done-clause-called
returns-in-Done-clause-called g c =
    let m = g.S.Tickets.meaning (script_of c.args.hall.now) in
    let still = worked_still m c.args.holding.now c.work.new.self c.args.hall.now.sizes.shards c.args.op c.in-Done.reply c.in-Done.ensures.worked in
    worked_called g.S.Tickets.meaning c.args.hall.now c.args.holding.now c.work.new.self c.requires.holding c.work.ensures.holding c.requires.kept still m c.args.hall.now.sizes.shards c.args.op c.in-Done.reply c.in-Done.ensures.worked

pub launch-requires-clause-kept : goal.launch-requires-clause-kept
launch-requires-clause-kept g c = kept_still c.args.holding.now c.work.new.self c.requires.kept c.in-Busy.ensures.worked.still

pub launch-requires-clause-may : goal.launch-requires-clause-may
launch-requires-clause-may g c =
    let s = busy_same g.S.Tickets.meaning c.args.hall.now c.args.holding.now c.work.new.self c.requires.holding c.work.ensures.holding c.requires.kept c.in-Busy.ensures.worked.still c.in-Busy.ensures.worked.busy.stage_still in
    may_again (g.S.Tickets.meaning (script_of c.args.hall.now)) c.args.holding.now c.work.new.self c.args.op s c.requires.may

pub launch-requires-clause-free : goal.launch-requires-clause-free
launch-requires-clause-free g c =
    free_again c.args.holding.now c.work.new.self c.args.op c.in-Busy.ensures.worked.busy.stage_still
    (present_still g.S.Tickets.meaning c.args.hall.now c.args.holding.now c.work.new.self c.requires.holding c.work.ensures.holding c.requires.kept c.in-Busy.ensures.worked.still) c.requires.free

pub apply_apart-requires-clause-none : goal.apply_apart-requires-clause-none
apply_apart-requires-clause-none g c = launched_none (g.S.Tickets.meaning (script_of c.args.hall.now)) c.work.new.self c.launch.new.self c.args.op c.launch.ensures.launched

pub apply_apart-requires-clause-stage : goal.apply_apart-requires-clause-stage
apply_apart-requires-clause-stage g c =
    let f = launched_flies (g.S.Tickets.meaning (script_of c.args.hall.now)) c.work.new.self c.launch.new.self c.args.op c.launch.ensures.launched in
    is_in_flight c.launch.new.self c.args.op (flies_stage c.work.new.self c.launch.new.self c.args.op f)

pub returns-clause-called : goal.returns-clause-called
returns-clause-called g c =
    let s = busy_same g.S.Tickets.meaning c.args.hall.now c.args.holding.now c.work.new.self c.requires.holding c.work.ensures.holding c.requires.kept c.in-Busy.ensures.worked.still c.in-Busy.ensures.worked.busy.stage_still in
    let f = launched_flies (g.S.Tickets.meaning (script_of c.args.hall.now)) c.work.new.self c.launch.new.self c.args.op c.launch.ensures.launched in
    let done = called_flying c.launch.new.self c.apply_apart.new.holding c.args.op c.apply_apart.result (flies_stage c.work.new.self c.launch.new.self c.args.op f) c.apply_apart.ensures.called in
    flown c.args.holding.now c.launch.new.self c.apply_apart.new.holding c.args.op c.apply_apart.result (flies_again c.args.holding.now c.work.new.self c.launch.new.self c.args.op s f) done
