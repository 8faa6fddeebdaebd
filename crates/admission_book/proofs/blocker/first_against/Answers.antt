use Rattle.admission_book.proofs.Firsts.{at_first}
use Rattle.admission_book.proofs.blocker.first_against.Goals as goal

pub returns-then-not-commute_symbol : goal.returns-then-not-commute_symbol
returns-then-not-commute_symbol c = at_first _ _ c.loop-s.s-index _ _ c.loop-s-test.true c.s-item.is c.loop-s.invariant c.commute_symbol.ensures.exact c.if-not-commute_symbol.true
