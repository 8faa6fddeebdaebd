use Rattle.std.proofs.Common.{Some, arith}
use Rattle.trace_audit.specs.Judging.{front_of}
use Rattle.trace_audit.proofs.Judged.{open_from, open_verdict, tickets_fit, whole_map}
use Rattle.trace_audit.proofs.judge.judge_whole.Goals as goal

pub overflow_cast-result : goal.overflow_cast-result
overflow_cast-result c =
    let o = open_from _ _ (Some c.in-Some.t) c.in-Some.is c.first_open.ensures in
    record { fits = omega (arith, o.0, c.requires.kept.count, c.requires.run.script.few_requests) }

pub returns-in-Some : goal.returns-in-Some
returns-in-Some c = λ m J opens w k. open_verdict m c.args.replays.now J (front_of c.args.front.now) c.in-Some.t k (open_from _ _ (Some c.in-Some.t) c.in-Some.is c.first_open.ensures)

pub judge_tickets-requires : goal.judge_tickets-requires
judge_tickets-requires c = tickets_fit c.requires.meaning _ _ c.requires.events _ c.requires.opening c.requires.run c.requires.kept

pub returns-in-None : goal.returns-in-None
returns-in-None c = whole_map c.args.tables.now c.args.replays.now (front_of c.args.front.now) _ c.judge_tickets.result c.first_open.ensures c.in-None.is c.judge_tickets.ensures
