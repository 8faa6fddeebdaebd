use Rattle.std.proofs.Common.{◌∙◌, refl}
use Rattle.session_hall.specs.Names.{script_of}
use Rattle.hall_serving.proofs.Again.{admitted_free, admitted_in_hand, admitted_same, delayed_same, may_again, quiet_again, same_back, same_itself, same_more}
use Rattle.hall_serving.proofs.kept_calls.admit.Goals as goal

pub loop-init : goal.loop-init
loop-init g c = record { holding = (c.requires.holding, refl); same = same_itself c.args.holding.now }

pub keep-requires-clause-stage : goal.keep-requires-clause-stage
keep-requires-clause-stage g c = quiet_again c.args.holding.now c.loop.holding _ c.loop.invariant.same c.requires.may

pub admit-requires-clause-may : goal.admit-requires-clause-may
admit-requires-clause-may g c = may_again (g.S.Tickets.meaning (script_of c.args.hall.now)) c.args.holding.now c.keep.new.holding c.args.op (same_more c.args.holding.now c.loop.holding c.keep.new.holding c.loop.invariant.same c.keep.ensures.still) c.requires.may

pub give_back-requires-clause-stage : goal.give_back-requires-clause-stage
give_back-requires-clause-stage g c =
    let m = g.S.Tickets.meaning (script_of c.args.hall.now) in
    let one = same_more c.args.holding.now c.loop.holding c.keep.new.holding c.loop.invariant.same c.keep.ensures.still in
    let two = same_more c.args.holding.now c.keep.new.holding c.admit.new.self one (delayed_same m c.keep.new.holding c.admit.new.self c.args.op _ _ c.in-Delayed.ensures.admits) in
    quiet_again c.args.holding.now c.admit.new.self _ two c.requires.may

pub loop-preserved : goal.loop-preserved
loop-preserved g c =
    let m = g.S.Tickets.meaning (script_of c.args.hall.now) in
    let one = same_more c.args.holding.now c.loop.holding c.keep.new.holding c.loop.invariant.same c.keep.ensures.still in
    let two = same_more c.args.holding.now c.keep.new.holding c.admit.new.self one (delayed_same m c.keep.new.holding c.admit.new.self c.args.op _ _ c.in-Delayed.ensures.admits) in
    record {
      holding = (c.give_back.ensures.holding.0, c.give_back.ensures.holding.1 ∙ c.admit.ensures.holding.1 ∙ c.keep.ensures.holding.1 ∙ c.loop.invariant.holding.1);
      same = same_more c.args.holding.now c.admit.new.self c.give_back.new.holding two (same_back c.admit.new.self c.give_back.new.holding c.give_back.ensures.gave);
    }

pub returns-in-Admitted-clause-kept : goal.returns-in-Admitted-clause-kept
returns-in-Admitted-clause-kept g c = admitted_in_hand (g.S.Tickets.meaning (script_of c.args.hall.now)) c.keep.new.holding c.admit.new.self c.args.op c.in-Admitted.ensures.admits

pub returns-in-Admitted-clause-same : goal.returns-in-Admitted-clause-same
returns-in-Admitted-clause-same g c =
    let m = g.S.Tickets.meaning (script_of c.args.hall.now) in
    same_more c.args.holding.now c.keep.new.holding c.admit.new.self (same_more c.args.holding.now c.loop.holding c.keep.new.holding c.loop.invariant.same c.keep.ensures.still) (admitted_same m c.keep.new.holding c.admit.new.self c.args.op c.in-Admitted.ensures.admits)

pub returns-in-Admitted-clause-free : goal.returns-in-Admitted-clause-free
returns-in-Admitted-clause-free g c = admitted_free (g.S.Tickets.meaning (script_of c.args.hall.now)) c.keep.new.holding c.admit.new.self c.args.op c.in-Admitted.ensures.admits
