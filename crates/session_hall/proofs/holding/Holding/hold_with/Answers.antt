use Rattle.std.proofs.Common.{None, refl, sym, subst}
use Rattle.session_hall.specs.HoldingCalls.{IsQuiet}
use Rattle.session_hall.specs.Names.{hall_name, id_of, script_of}
use Rattle.session_hall.proofs.Kept.{in_hand}
use Rattle.session_hall.proofs.KeptTaking.{held_after}
use Rattle.session_hall.proofs.Tried.{both_same, none_tried, one_tried}
use Rattle.session_hall.proofs.holding.Holding.hold_with.Goals as goal

pub loop-init : goal.loop-init
loop-init g c = record { holding = c.requires.holding; none = c.requires.none; stage = c.requires.stage; since = none_tried c.args.self.now.caller }

pub loop-preserved : goal.loop-preserved
loop-preserved g c =
    let inv = c.loop.invariant in
    let m = g.S.Tickets.meaning (script_of c.args.hall.now) in
    let p = id_of (hall_name c.args.hall.now) in
    let before = in_hand g.S.Tickets.meaning p (script_of c.args.hall.now) c.loop.self None inv.none inv.holding in
    let after = in_hand g.S.Tickets.meaning p (script_of c.args.hall.now) c.hold.new.self None c.if-hold.ensures.took.0 c.hold.ensures.holding.0 in
    record {
      holding = c.hold.ensures.holding.0;
      none = c.if-hold.ensures.took.0;
      stage = subst (λ s. IsQuiet s) (sym c.if-hold.ensures.took.1.stage_still) inv.stage;
      since = one_tried m c.args.self.now.caller c.loop.self.caller c.hold.new.self.caller 0 inv.since
          (both_same g.S.Tickets.meaning c.args.hall.now c.loop.self.caller c.hold.new.self.caller before (after, c.hold.ensures.holding.1)) (refl, c.if-hold.ensures.took.1);
    }

pub returns-then-hold-clause-took : goal.returns-then-hold-clause-took
returns-then-hold-clause-took g c =
    held_after (g.S.Tickets.meaning (script_of c.args.hall.now)) c.args.self.now c.loop.self c.hold.new.self c.requires.none c.loop.invariant.none c.loop.invariant.since c.if-hold.ensures.took
