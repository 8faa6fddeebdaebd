use Rattle.admission_book.proofs.Touches.{noted_more}
use Rattle.admission_book.proofs.touched_tables.TouchedTables.of.Goals as goal

pub loop-s-preserved : goal.loop-s-preserved
loop-s-preserved c = noted_more _ _ _ c.loop-s.s-index _ c.loop-s-test.true c.s-item.is c.loop-s.invariant c.note.ensures.kept c.note.ensures.noted
