use Rattle.std.proofs.Common.{List, ℕ, subst}
use Rattle.byte_ends.specs.Changes.{change}
use Rattle.serve_faults.specs.Ways.{HasRead, StoppedAs}
use Rattle.foresight_waits.specs.Runs.{Shows}
use Rattle.foresight_waits.proofs.TellLemmas.{tells_shown, tells_stopped}
use Rattle.foresight_waits.proofs.top.tell_of.Goals as goal

pub returns-in-Ok : goal.returns-in-Ok
returns-in-Ok g c =
    let source = change g.I.Source.left g.I.Source.faults c.args.source.now c.read_at_most.new.source in
    let out = change g.O.Sink.held g.O.Sink.faults c.args.out.now c.show.new.out in
    let read = subst (λ (n : ℕ). HasRead n source c.in-Ok.bytes.items) c.most.ensures c.in-Ok.ensures.read in
    record {
      tells = tells_shown c.args.subject c.args.form source out c.show.result c.in-Ok.bytes.items read
          (subst (λ (bytes : List ℕ). Shows c.args.subject c.args.form bytes out c.show.result) c.deref.ensures.value c.show.ensures);
      lost = read.lost;
    }

pub returns-in-Err : goal.returns-in-Err
returns-in-Err g c =
    let source = change g.I.Source.left g.I.Source.faults c.args.source.now c.read_at_most.new.source in
    let stopped = subst (λ (n : ℕ). StoppedAs n source c.in-Err.status) c.most.ensures c.in-Err.ensures.stopped in
    record {
      tells = tells_stopped c.args.subject c.args.form source g.O.Sink.held g.O.Sink.faults c.args.out.now c.in-Err.status stopped;
      lost = stopped.0;
    }
