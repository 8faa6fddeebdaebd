use Rattle.std.proofs.Common.{sym}
use Rattle.may_use_analysis.proofs.Members.{new_more}
use Rattle.may_use_analysis.proofs.heads.new_among.Goals as goal

pub loop-s-preserved : goal.loop-s-preserved
loop-s-preserved c =
    new_more c.args.symbols.now c.loop-s.fresh c.insert.new.self c.s-item.result c.loop-s.invariant (c.loop-s.s-index, c.loop-s-test.true, sym c.s-item.is) c.in_ok-insert.ensures
