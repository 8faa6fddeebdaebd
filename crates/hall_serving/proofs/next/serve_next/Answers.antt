use Rattle.std.proofs.Common.{rules, ◌∙◌}
use Rattle.session_hall.specs.Names.{script_of}
use Rattle.hall_serving.proofs.Mine.{begin_more, begin_none}
use Rattle.hall_serving.proofs.SerialReplies.{serves_next}
use Rattle.hall_serving.proofs.next.serve_next.Goals as goal

pub returns-clause-served : goal.returns-clause-served
returns-clause-served g c =
    let more = begin_more g.S.Tickets.meaning c.args.crew.hall.now c.args.caller.now c.begin.new.self c.requires.caller c.begin.ensures.caller (g.S.Tickets.meaning (script_of c.args.crew.hall.now)) c.in-Some.ticket c.in-Some.ensures.begun in
    serves_next c.answering.ensures g.S.Tickets.meaning c.args.crew.hall.now c.args.caller.now c.serve_ticket-reply.new.caller c.args.crew.plan.now c.in-Some.ticket c.serve_ticket-reply.result
    c.serve_ticket-reply.ensures.caller.0 (c.serve_ticket-reply.ensures.begun.begun_still ∙ more) c.args.crew.same (search rules) c.serve_ticket-reply.ensures.idle c.serve_ticket-reply.ensures.known

pub returns-in_default-clause-served : goal.returns-in_default-clause-served
returns-in_default-clause-served g c = record {
  begun_still = begin_none g.S.Tickets.meaning c.args.crew.hall.now c.args.caller.now c.begin.new.self c.requires.caller c.begin.ensures.caller (g.S.Tickets.meaning (script_of c.args.crew.hall.now)) c.in_default.ensures.begun;
  out = c.in_default.ensures.begun.2.stage_is;
}
