use Rattle.std.proofs.Common.{None, refl, sym, subst}
use Rattle.std.proofs.lemmas.Bool.Decides.{not_from_Decides}
use Rattle.session_hall.specs.HoldingCalls.{IsQuiet}
use Rattle.session_hall.specs.Names.{hall_name, id_of, script_of}
use Rattle.session_hall.proofs.Kept.{in_hand}
use Rattle.session_hall.proofs.KeptTaking.{held_after}
use Rattle.session_hall.proofs.Tried.{both_same, none_tried, one_tried}
use Rattle.hall_serving.proofs.Running.{never_waited, waited_more}
use Rattle.hall_serving.proofs.Unkept.{not_kept}
use Rattle.hall_serving.proofs.runner.hold_meanwhile.Goals as goal

pub loop-init : goal.loop-init
loop-init g c = record {
  holding = c.requires.holding;
  unkept = not_kept c.args.holding.now.book (not_from_Decides c.is_kept.result c.is_kept.ensures c.if-is_kept.false);
  none = not_kept c.args.holding.now.book (not_from_Decides c.is_kept.result c.is_kept.ensures c.if-is_kept.false);
  stage = c.requires.stage;
  since = none_tried c.args.holding.now.caller;
  takes = λ replies t. t;
  waited = never_waited g.A.AfterEnd.Given c.args.after.now;
}

pub loop-preserved : goal.loop-preserved
loop-preserved g c =
    let inv = c.loop.invariant in
    let m = g.S.Tickets.meaning (script_of c.args.crew.hall.now) in
    let p = id_of (hall_name c.args.crew.hall.now) in
    let before = in_hand g.S.Tickets.meaning p (script_of c.args.crew.hall.now) c.loop.holding None inv.none inv.holding in
    let after = in_hand g.S.Tickets.meaning p (script_of c.args.crew.hall.now) c.hold.new.self None c.if-hold.ensures.took.0 c.hold.ensures.holding.0 in
    record {
      holding = c.hold.ensures.holding.0;
      unkept = inv.unkept;
      none = c.if-hold.ensures.took.0;
      stage = subst (λ s. IsQuiet s) (sym c.if-hold.ensures.took.1.stage_still) inv.stage;
      since = one_tried m c.args.holding.now.caller c.loop.holding.caller c.hold.new.self.caller 0 inv.since
          (both_same g.S.Tickets.meaning c.args.crew.hall.now c.loop.holding.caller c.hold.new.self.caller before (after, c.hold.ensures.holding.1)) (refl, c.if-hold.ensures.took.1);
      takes = λ replies t. c.meanwhile.ensures.takes replies (inv.takes replies t);
      waited = waited_more g.A.AfterEnd.Given c.args.after.now c.loop.after c.meanwhile.new.self inv.waited c.meanwhile.ensures.given;
    }

pub returns-then-is_kept-clause-waited : goal.returns-then-is_kept-clause-waited
returns-then-is_kept-clause-waited g c = never_waited g.A.AfterEnd.Given c.args.after.now

pub returns-then-hold-clause-still : goal.returns-then-hold-clause-still
returns-then-hold-clause-still g c =
    let inv = c.loop.invariant in
    let h = held_after (g.S.Tickets.meaning (script_of c.args.crew.hall.now)) c.args.holding.now c.loop.holding c.hold.new.self inv.unkept inv.none inv.since c.if-hold.ensures.took in
    record { stage_still = h.4; foresight_still = h.5; begun_still = h.6; entries_still = h.7 }
