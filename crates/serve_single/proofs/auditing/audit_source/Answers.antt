use Rattle.std.proofs.Common.{ℕ, List, refl, rules, subst}
use Rattle.byte_ends.specs.Changes.{change}
use Rattle.serve_faults.specs.Input.{max_audit_input}
use Rattle.serve_faults.specs.Ways.{HasRead}
use Rattle.serve_single.proofs.TopLemmas.{audited_run, unaudited_run}
use Rattle.serve_single.proofs.auditing.audit_source.Goals as goal

pub returns-in-Ok : goal.returns-in-Ok
returns-in-Ok g c =
    let source = change g.I.Source.left g.I.Source.faults c.args.source.now c.read_at_most.new.source in
    audited_run source (change g.O.Sink.held g.O.Sink.faults c.args.out.now c.audit_input.new.out) c.as_slice.result.now c.audit_input.result (subst (λ (b : List ℕ). HasRead max_audit_input source b) (search rules) c.in-Ok.ensures.read) c.audit_input.ensures

pub returns-in-Err : goal.returns-in-Err
returns-in-Err g c =
    unaudited_run (change g.I.Source.left g.I.Source.faults c.args.source.now c.read_at_most.new.source) (change g.O.Sink.held g.O.Sink.faults c.args.out.now c.args.out.now) c.in-Err.status c.in-Err.ensures.stopped refl
