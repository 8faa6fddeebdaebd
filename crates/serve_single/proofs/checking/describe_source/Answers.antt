use Rattle.std.proofs.Common.{refl}
use Rattle.byte_ends.specs.Changes.{change}
use Rattle.serve_single.proofs.TopLemmas.{described_run, undescribed_run}
use Rattle.serve_single.proofs.checking.describe_source.Goals as goal

pub returns-in-Ok : goal.returns-in-Ok
returns-in-Ok g c =
    let source = change g.I.Source.left g.I.Source.faults c.args.source.now c.read_at_most.new.source in
    described_run source (change g.O.Sink.held g.O.Sink.faults c.args.out.now c.describe_input.new.out) c.args.shown c.in-Ok.bytes.items c.describe_input.result c.in-Ok.ensures.read c.describe_input.ensures

pub returns-in-Err : goal.returns-in-Err
returns-in-Err g c =
    undescribed_run (change g.I.Source.left g.I.Source.faults c.args.source.now c.read_at_most.new.source) (change g.O.Sink.held g.O.Sink.faults c.args.out.now c.args.out.now) c.args.shown c.in-Err.status c.in-Err.ensures.stopped refl
