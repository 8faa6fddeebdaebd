use Rattle.std.proofs.Common.{◌≡◌, ℕ, ◌+◌, List, sym, subst, arith}
use Rattle.session_values.specs.declared.reply.Reply.{Reply}
use Rattle.session_journal.specs.Script.{Meaning}
use Rattle.handler_machine.specs.Scripts.{meaning}
use Rattle.serve_single.specs.Serving.{AreServed}
use Rattle.serve_single.proofs.Served.{none_served, served_next}
use Rattle.serve_single.proofs.running.run_tickets.Goals as goal

pub loop-t-init : goal.loop-t-init
loop-t-init c = record {
  served = none_served (meaning c.args.scripts.now) _ _ c.requires.script c.requires.none c.requires.opening;
  room = c.requires.room;
}

pub push_reserved-requires : goal.push_reserved-requires
push_reserved-requires c =
    let inv = c.loop-t.invariant in
    omega (arith, inv.served.long, inv.room, c.loop-t.replies.ok, c.loop-t-test.true, c.requests-t-end.ensures.requests)

pub loop-t-preserved : goal.loop-t-preserved
loop-t-preserved c =
    let m : Meaning = meaning c.args.scripts.now in
    let inv = c.loop-t.invariant in
    record {
      served = subst (λ (rs : List Reply). AreServed m (c.loop-t.t + 1) rs c.run_ticket.new.who.tables) (sym c.push_reserved.ensures.items)
          (served_next m c.loop-t.t c.loop-t.tables c.run_ticket.new.who c.in_ok-reply.reply c.loop-t.replies.items c.requires.script inv.served c.in_ok-reply.ensures.runs c.in_ok-reply.ensures.stays.same_shape);
      room = omega (arith, inv.room, c.push_reserved.ensures.capacity);
    }

pub returns : goal.returns
returns c =
    let all : c.loop-t.t ≡ (meaning c.args.scripts.now).requests = omega (arith, c.loop-t-test.false, c.loop-t.auto.t-end, c.requests-t-end.ensures.requests) in
    subst (λ (n : ℕ). AreServed (meaning c.args.scripts.now) n c.loop-t.replies.items c.loop-t.tables.tables) all c.loop-t.invariant.served
