use Rattle.std.proofs.Common.{◌≤◌, ◌+◌, ◌*◌, length}
use Rattle.session_journal.specs.Script.{Meaning, calls}
use Rattle.admission_book.specs.Book.{Book}
use Rattle.admission_book.specs.Lawful.{Lawful}
use Rattle.admission_book.proofs.Room.{few_events}
use Rattle.admission_book.proofs.Shown.{here, there}
use Rattle.admission_book.proofs.book.Book.journal.Goals as goal

pub returns-clause-few : goal.returns-clause-few
returns-clause-few g c =
    let L = here Lawful g.S.Tickets.meaning _ _ _ c.self.view_is c.requires.lawful in
    there (λ (m : Meaning) (b : Book). length b.journal ≤ 2 * m.requests + 2 * calls m) g.S.Tickets.meaning _ _ _ c.self.view_is (few_events _ _ c.self.invariant.script L)
