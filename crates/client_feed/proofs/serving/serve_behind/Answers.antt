-- The requests of arrivals can be served, since all can.
use Rattle.std.proofs.Common.{List, subst, sym}
use Rattle.request_files.specs.declared.request.Request.{Request}
use Rattle.request_files.specs.Servable.{IsServable}
use Rattle.client_feed.proofs.Between.{asked_servable}
use Rattle.client_feed.proofs.serving.serve_behind.Goals as goal

pub serve_first-requires-clause-servable : goal.serve_first-requires-clause-servable
serve_first-requires-clause-servable g c κs within =
    let P : List Request → Type 0 = λ rs. IsServable c.args.plan.now.work.now.program.now.file rs in
    subst P (sym c.in_ok-requests.ensures) (asked_servable c.args.plan.now.work.now.program.now.file c.args.plan.now.work.now.clients.now c.requires.shared c.args.plan.now.work.now.servable c.requires.arrivals.before c.args.arrivals.now c.requires.arrivals.drawn)

pub serve_next-requires-clause-servable : goal.serve_next-requires-clause-servable
serve_next-requires-clause-servable g c κs within =
    let P : List Request → Type 0 = λ rs. IsServable c.args.plan.now.work.now.program.now.file rs in
    subst P (sym c.in_ok-requests.ensures) (asked_servable c.args.plan.now.work.now.program.now.file c.args.plan.now.work.now.clients.now c.requires.shared c.args.plan.now.work.now.servable c.requires.arrivals.before c.args.arrivals.now c.requires.arrivals.drawn)
