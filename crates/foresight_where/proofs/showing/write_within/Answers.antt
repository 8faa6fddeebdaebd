use Rattle.std.proofs.Common.{◌++◌}
use Rattle.foresight_where.specs.declared.ending.Ending.TheVariants.{Reported}
use Rattle.foresight_where.proofs.Writing.{writes_more, writes_none}
use Rattle.foresight_where.proofs.showing.write_within.Goals as goal

pub returns-then-write_all : goal.returns-then-write_all
returns-then-write_all g c =
    writes_more g.O.Sink.held g.O.Sink.faults c.args.out.now c.write_all.new.out c.write_before.new.out c.args.front.now (c.args.text.now ++ c.args.back.now) Reported c.write_before.result
    (c.write_all.ensures.faults.0 c.if-write_all.true, c.write_all.ensures.all c.if-write_all.true) c.write_before.ensures

pub returns-else-write_all : goal.returns-else-write_all
returns-else-write_all g c =
    writes_none g.O.Sink.held g.O.Sink.faults c.args.out.now c.write_all.new.out c.args.front.now (c.args.text.now ++ c.args.back.now) Reported
    (c.write_all.ensures.faults.1 c.if-write_all.false) (c.write_all.ensures.front c.if-write_all.false)
