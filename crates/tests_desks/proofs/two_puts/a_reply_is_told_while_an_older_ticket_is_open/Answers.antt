use Rattle.tests_desks.proofs.BookSteps.{asks_close}
use Rattle.tests_desks.proofs.TwoPuts.{all_have_ended}
use Rattle.tests_desks.proofs.two_puts.a_reply_is_told_while_an_older_ticket_is_open.Goals as goal

pub close-journal-requires-clause-ended : goal.close-journal-requires-clause-ended
close-journal-requires-clause-ended g c = asks_close _ _ _ c.end_older.ensures (all_have_ended c.put_second-older.result.0 c.put_second-older.result.1)
