-- The session from its opening to the last line.
use Rattle.std.proofs.Common.{rules, ◌∙◌}
use Rattle.session_values.specs.Limits.{max_requests}
use Rattle.hall_writing.proofs.Sessions.{ready, leave, left_unkept, few_replies, keeps_start}
use Rattle.hall_writing.proofs.Closing.{few_left, within_left, written}
use Rattle.hall_writing.proofs.serving.serve_and_write.Goals as goal

pub run_jobs-first-requires-clause-first : goal.run_jobs-first-requires-clause-first
run_jobs-first-requires-clause-first g c κs within = record {
  job = (ready g.S.Tickets.meaning _ _ c.args.plan.now _ _ _ _ c.session.invariant (search rules) _ _ c.part_first-job.ensures).0;
  keeps = keeps_start g.S.Tickets.meaning _ _ c.answering.ensures c.args.plan.now _ _ _ _ c.session.invariant (search rules);
  few = few_replies g.S.Tickets.meaning _ _ c.answering.ensures c.args.plan.now _ _ _ _ _ c.session.invariant (search rules) (search rules);
  printable = search rules;
}

pub run_jobs-first-requires-clause-jobs : goal.run_jobs-first-requires-clause-jobs
run_jobs-first-requires-clause-jobs g c κs within = (ready g.S.Tickets.meaning _ _ c.args.plan.now _ _ _ _ c.session.invariant (search rules) _ _ c.part_first-job.ensures).1

pub end_jobs-requires-clause-unkept : goal.end_jobs-requires-clause-unkept
end_jobs-requires-clause-unkept g c =
    left_unkept g.S.Tickets.meaning c.session.inside.hall _ _ _ _ c.run_jobs-first.ensures.len c.run_jobs-first.ensures.first c.run_jobs-first.ensures.jobs

pub close-closed-requires-clause-callers : goal.close-closed-requires-clause-callers
close-closed-requires-clause-callers g c =
    leave g.S.Tickets.meaning c.session.inside.hall c.session.inside.lane _ _ _ c.run_jobs-first.result.0.job c.run_jobs-first.result.1.items c.from_vec.result
    c.part_first-job.ensures (c.from_vec.ensures ∙ c.end_jobs.ensures) c.run_jobs-first.ensures.len c.session.invariant.opens c.run_jobs-first.ensures.first c.run_jobs-first.ensures.jobs

pub write_rest-whole-requires-clause-few : goal.write_rest-whole-requires-clause-few
write_rest-whole-requires-clause-few g c =
    few_left g.S.Tickets.meaning c.session.inside.hall c.args.plan.now (search rules) c.close-closed.result c.close-closed.ensures.done _ (c.as_slice.ensures ∙ c.replies.ensures) max_requests
    (few_replies g.S.Tickets.meaning _ _ c.answering.ensures c.args.plan.now _ _ _ _ max_requests c.session.invariant (search rules) (search rules))

pub write_rest-whole-requires-clause-within : goal.write_rest-whole-requires-clause-within
write_rest-whole-requires-clause-within g c =
    within_left g.S.Tickets.meaning c.session.inside.hall c.args.plan.now (search rules) c.close-closed.result c.close-closed.ensures.done _ (c.as_slice.ensures ∙ c.replies.ensures) _ _ _ _ _ c.session.invariant
    c.args.names.now (g.O.Sink.held c.args.out.now) (g.O.Sink.faults c.args.out.now) _ c.run_jobs-first.ensures.on

pub returns-clause-all : goal.returns-clause-all
returns-clause-all g c =
    (written g.S.Tickets.meaning c.session.inside.hall c.args.plan.now (search rules) c.close-closed.result c.close-closed.ensures.done _ (c.as_slice.ensures ∙ c.replies.ensures) _ _ _ _ _ c.session.invariant
    c.args.names.now (g.O.Sink.held c.args.out.now) (g.O.Sink.faults c.args.out.now) _ c.run_jobs-first.ensures.on _ _ _ c.write_rest-whole.ensures.ends).all

pub returns-clause-faults : goal.returns-clause-faults
returns-clause-faults g c =
    (written g.S.Tickets.meaning c.session.inside.hall c.args.plan.now (search rules) c.close-closed.result c.close-closed.ensures.done _ (c.as_slice.ensures ∙ c.replies.ensures) _ _ _ _ _ c.session.invariant
    c.args.names.now (g.O.Sink.held c.args.out.now) (g.O.Sink.faults c.args.out.now) _ c.run_jobs-first.ensures.on _ _ _ c.write_rest-whole.ensures.ends).faults

pub returns-clause-front : goal.returns-clause-front
returns-clause-front g c =
    (written g.S.Tickets.meaning c.session.inside.hall c.args.plan.now (search rules) c.close-closed.result c.close-closed.ensures.done _ (c.as_slice.ensures ∙ c.replies.ensures) _ _ _ _ _ c.session.invariant
    c.args.names.now (g.O.Sink.held c.args.out.now) (g.O.Sink.faults c.args.out.now) _ c.run_jobs-first.ensures.on _ _ _ c.write_rest-whole.ensures.ends).front
