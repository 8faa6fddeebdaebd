use Rattle.tests_desks.proofs.BookRows.{all_have_ended}
use Rattle.tests_desks.proofs.books.the_youngest_ticket_waits_until_the_others_narrow.Goals as goal

pub close-journal-requires-clause-ended : goal.close-journal-requires-clause-ended
close-journal-requires-clause-ended g c = all_have_ended c.put_when_free-older.result.0 c.put_when_free-older.result.1 c.end_all.new.book c.end_all.ensures
