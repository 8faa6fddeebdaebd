use Rattle.std.proofs.Common.{◌∙◌, refl}
use Rattle.hall_serving.proofs.Sessions.{jobs_begin, jobs_end, callers_leave}
use Rattle.hall_serving.proofs.session.serve_session.Goals as goal

pub serve_all-requires-clause-jobs : goal.serve_all-requires-clause-jobs
serve_all-requires-clause-jobs g c κs within = jobs_begin _ _ _ _ refl c.session.invariant.opens c.session.invariant.unkept

pub end_jobs-requires-clause-unkept : goal.end_jobs-requires-clause-unkept
end_jobs-requires-clause-unkept g c = jobs_end _ _ _ _ c.serve_all.ensures.len c.serve_all.ensures.jobs

pub close-requires-clause-callers : goal.close-requires-clause-callers
close-requires-clause-callers g c = callers_leave _ _ _ _ _ _ refl (c.from_vec.ensures ∙ c.end_jobs.ensures) c.serve_all.ensures.len c.session.invariant.opens c.serve_all.ensures.jobs
