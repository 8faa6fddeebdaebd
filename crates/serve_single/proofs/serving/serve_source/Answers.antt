use Rattle.std.proofs.Common.{ℕ, List, refl, rules, subst}
use Rattle.session_values.specs.Limits.{max_input}
use Rattle.byte_ends.specs.Changes.{change}
use Rattle.serve_faults.specs.Ways.{HasRead}
use Rattle.serve_single.proofs.TopLemmas.{served_run, unserved_run}
use Rattle.serve_single.proofs.serving.serve_source.Goals as goal

pub returns-in-Ok : goal.returns-in-Ok
returns-in-Ok g c = λ callers shards.
    let source = change g.I.Source.left g.I.Source.faults c.args.source.now c.read_at_most.new.source in
    served_run source (change g.O.Sink.held g.O.Sink.faults c.args.out.now c.serve_input.new.out) callers shards c.args.tables c.as_slice.result.now c.serve_input.result
    (subst (λ (b : List ℕ). HasRead max_input source b) (search rules) c.in-Ok.ensures.read) (c.serve_input.ensures callers shards)

pub returns-in-Err : goal.returns-in-Err
returns-in-Err g c = λ callers shards.
    unserved_run (change g.I.Source.left g.I.Source.faults c.args.source.now c.read_at_most.new.source) (change g.O.Sink.held g.O.Sink.faults c.args.out.now c.args.out.now) callers shards c.args.tables c.in-Err.status c.in-Err.ensures.stopped refl
