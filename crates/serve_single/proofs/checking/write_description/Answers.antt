use Rattle.byte_ends.specs.Changes.{change}
use Rattle.serve_reading.specs.Described.{text_of}
use Rattle.serve_single.proofs.EndLemmas.{ends_or_wants}
use Rattle.serve_single.proofs.checking.write_description.Goals as goal

pub returns-in-Ok : goal.returns-in-Ok
returns-in-Ok g c =
    ends_or_wants (text_of c.args.description.now) (change g.O.Sink.held g.O.Sink.faults c.args.out.now c.write_paged.new.out) c.write_paged.result c.write_paged.ensures
