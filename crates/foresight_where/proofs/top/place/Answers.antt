use Rattle.std.proofs.Common.{ℕ, List, subst}
use Rattle.byte_ends.specs.Changes.{change}
use Rattle.foresight_where.specs.Runs.{PlacesIn}
use Rattle.foresight_where.proofs.Placing.{run_placed}
use Rattle.foresight_where.proofs.top.place.Goals as goal

pub returns-in-Ok : goal.returns-in-Ok
returns-in-Ok g c =
    let source = change g.I.Source.left g.I.Source.faults c.args.source.now c.read_bytes.new.source in
    let files = change g.F.Source.left g.F.Source.faults c.args.files.now c.place_in.new.files in
    let out = change g.O.Sink.held g.O.Sink.faults c.args.out.now c.place_in.new.out in
    let file = g.F.OpensFiles.bytes_of c.args.files.now c.args.asked.name.now in
    run_placed c.args.asked.form c.args.asked.name.now source files file out c.place_in.result c.in-Ok.input.items c.in-Ok.ensures.read
    (subst (λ (bytes : List ℕ). PlacesIn c.args.asked.form c.args.asked.name.now bytes files file out c.place_in.result) c.deref.ensures.value c.place_in.ensures)
