use Rattle.byte_ends.specs.Changes.{change}
use Rattle.foresight_waits.proofs.TellLemmas.{tells_opened, tells_unopened, tells_unopened_wanting}
use Rattle.foresight_waits.proofs.top.tell_of_file.Goals as goal

pub returns-in-Open : goal.returns-in-Open
returns-in-Open g c =
    tells_opened c.args.subject c.args.form g.F.Source.left g.F.Source.faults c.args.files.now c.open.new.self c.tell_of.new.source
    (change g.O.Sink.held g.O.Sink.faults c.args.out.now c.tell_of.new.out) c.tell_of.result (g.F.OpensFiles.bytes_of c.args.files.now c.args.name.now)
    c.in-Open.ensures.counts c.in-Open.ensures.gives c.tell_of.ensures.tells

pub returns-in-Failed : goal.returns-in-Failed
returns-in-Failed g c =
    tells_unopened c.args.subject c.args.form (change g.F.Source.left g.F.Source.faults c.args.files.now c.open.new.self) g.O.Sink.held g.O.Sink.faults c.args.out.now
    c.in-Failed.ensures.counts (g.F.OpensFiles.bytes_of c.args.files.now c.args.name.now)

pub returns-in-NoMemory : goal.returns-in-NoMemory
returns-in-NoMemory g c =
    tells_unopened_wanting c.args.subject c.args.form (change g.F.Source.left g.F.Source.faults c.args.files.now c.open.new.self) g.O.Sink.held g.O.Sink.faults c.args.out.now
    c.in-NoMemory.ensures.counts (g.F.OpensFiles.bytes_of c.args.files.now c.args.name.now)
