use Rattle.tests_desks.proofs.BookSteps.{asks_begin, has_begun_none}
use Rattle.tests_desks.proofs.TwoPuts.{none_left}
use Rattle.tests_desks.proofs.two_puts.begin_none.Goals as goal

pub begin-requires-clause-may : goal.begin-requires-clause-may
begin-requires-clause-may g c = asks_begin _ _ _ c.requires 2 _ (none_left _)

pub returns : goal.returns
returns g c = has_begun_none _ _ _ _ c.requires c.begin.ensures.stays _ _ _ c.in-None.is c.begin.ensures.begins
