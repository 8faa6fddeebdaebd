use Rattle.std.proofs.Common.{ℕ, List, refl, rules, subst}
use Rattle.session_values.specs.Limits.{max_input}
use Rattle.byte_ends.specs.Changes.{change}
use Rattle.serve_faults.specs.Ways.{HasRead}
use Rattle.serve_single.proofs.TopLemmas.{ranged_run, unranged_run}
use Rattle.serve_single.proofs.ranging.range_source.Goals as goal

pub returns-in-Ok : goal.returns-in-Ok
returns-in-Ok g c =
    let source = change g.I.Source.left g.I.Source.faults c.args.source.now c.read_at_most.new.source in
    ranged_run source (change g.O.Sink.held g.O.Sink.faults c.args.out.now c.range_input.new.out) c.as_slice.result.now c.range_input.result (subst (λ (b : List ℕ). HasRead max_input source b) (search rules) c.in-Ok.ensures.read) c.range_input.ensures

pub returns-in-Err : goal.returns-in-Err
returns-in-Err g c =
    unranged_run (change g.I.Source.left g.I.Source.faults c.args.source.now c.read_at_most.new.source) (change g.O.Sink.held g.O.Sink.faults c.args.out.now c.args.out.now) c.in-Err.status c.in-Err.ensures.stopped refl
