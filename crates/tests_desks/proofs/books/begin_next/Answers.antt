use Rattle.tests_desks.proofs.BookRows.{begins_so}
use Rattle.tests_desks.proofs.books.begin_next.Goals as goal

pub begin-requires-clause-may : goal.begin-requires-clause-may
begin-requires-clause-may g c =
    let both = begins_so c.args.book.now.script c.script.result.now c.args.book.now.book c.in-Some.t c.args.scratch.now.room c.entry.new.out c.script.ensures.lawful c.script.ensures.script c.in-Some.ensures.0 c.entry.ensures in
    record { caller = c.requires.caller; idle = c.requires.idle; entry = λ l. both.0; declared = λ l. both.1 }
