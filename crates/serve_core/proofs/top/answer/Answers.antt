use Rattle.std.proofs.Common.{◌≡◌, ◌≤◌, Option, Some, refl, rules, subst, sym}
use Rattle.session_values.specs.Limits.{max_requests}
use Rattle.serve_words.specs.declared.command.Command.{Command}
use Rattle.serve_words.specs.declared.command.Command.TheVariants.{Work}
use Rattle.byte_ends.specs.Changes.{change}
use Rattle.serve_core.specs.Runs.{Runs}
use Rattle.serve_core.proofs.TopLemmas.{few_requests, work_run}
use Rattle.serve_core.proofs.top.answer.Goals as goal

pub returns-in-Some-Work : goal.returns-in-Some-Work
returns-in-Some-Work g c =
    let source = change g.I.Source.left g.I.Source.faults c.args.source.now c.args.source.now in
    let out = change g.O.Sink.held g.O.Sink.faults c.args.out.now c.work.new.out in
    let is : c.args.command ≡ Some (Work c.in-Some-Work.requests c.in-Some-Work.start) = search rules in
    let few : c.in-Some-Work.requests ≤ max_requests = few_requests c.args.command c.in-Some-Work.requests c.in-Some-Work.start is c.requires in
    subst (λ (o : Option Command). Runs o source out c.work.result.status c.work.result.closed) (sym is)
    (work_run source out c.in-Some-Work.requests c.in-Some-Work.start few c.work.result.status c.work.result.closed refl c.work.ensures)
