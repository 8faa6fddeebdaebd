use Rattle.std.proofs.Common.{arith, length, slice_get, vec_capacity, sym, ap, ◌∙◌}
use Rattle.hall_serving.proofs.Sessions.{opened}
use Rattle.hall_serving.proofs.session.reopen_session.Goals as goal

pub invariant_of-result : goal.invariant_of-result
invariant_of-result g c =
    let left = c.into_vec-left.result in
    let list = c.into_vec-left.ensures in
    let long = left.ok.0 in
    let within = left.ok.1 in
    let same = c.begin_jobs.ensures.callers.1 in
    opened g.S.Tickets.meaning c.in-Ok.hall c.begin_jobs.new.jobs.items left.items c.begin_jobs.new.callers.items c.args.callers (vec_capacity c.begin_jobs.new.callers)
    c.begin_jobs.ensures.jobs (λ i x at. c.in-Ok.ensures.callers i x (ap (λ l. slice_get l i) (sym list) ∙ at))
    (ap (λ l. length l) list ∙ c.in-Ok.ensures.count) c.in-Ok.ensures.sizes.2 c.requires.callers.0 c.begin_jobs.ensures.callers.0 (omega (arith, long, within, same)) c.begin_jobs.ensures.unkept
