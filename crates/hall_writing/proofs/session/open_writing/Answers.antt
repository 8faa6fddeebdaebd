-- The jobs have the callers as they were opened, and the ends of the lane.
use Rattle.std.proofs.Common.{rules, arith, length, slice_get, vec_capacity, sym, ap, ◌∙◌}
use Rattle.hall_writing.proofs.Sessions.{opened}
use Rattle.hall_writing.proofs.session.open_writing.Goals as goal

pub invariant_of-result : goal.invariant_of-result
invariant_of-result g c =
    let left = c.into_vec-left.result in
    let list = c.into_vec-left.ensures in
    let long = left.ok.0 in
    let within = left.ok.1 in
    let same = c.begin_jobs.ensures.callers.1 in
    opened g.S.Script.meaning c.in_ok-hall.hall c.in_ok-lane.lane c.args.script c.begin_jobs.new.jobs.items left.items c.begin_jobs.new.callers.items c.into_vec-ends.result.items c.args.sizes.callers (vec_capacity c.begin_jobs.new.callers) _
    (search rules) c.begin_jobs.ensures.jobs c.begin_jobs.ensures.ends (λ i x at. c.in_ok-hall.ensures.callers i x (ap (λ l. slice_get l i) (sym list) ∙ at))
    (search rules) (ap (λ l. length l) list ∙ c.in_ok-hall.ensures.count) c.in_ok-hall.ensures.sizes.2 (search rules) c.begin_jobs.ensures.callers.0 (omega (arith, long, within, same))
    (search rules) (search rules) (search rules) c.begin_jobs.ensures.unkept
