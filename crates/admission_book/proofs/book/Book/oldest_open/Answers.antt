use Rattle.session_journal.specs.Script.{Meaning}
use Rattle.admission_book.specs.Book.{Book}
use Rattle.admission_book.specs.Lawful.{Lawful}
use Rattle.admission_book.specs.Methods.{IsOldestOpen}
use Rattle.admission_book.proofs.Inside.{view_lent}
use Rattle.admission_book.proofs.Shown.{here, there}
use Rattle.admission_book.proofs.Oldest.{oldest}
use Rattle.admission_book.proofs.book.Book.oldest_open.Goals as goal

pub returns : goal.returns
returns g c =
    let seen = view_lent g.S.Tickets.meaning _ _ _ c.deref.ensures c.self.view_is in
    let L = here Lawful g.S.Tickets.meaning _ _ _ seen c.requires.lawful in
    there (λ (m : Meaning) (b : Book). IsOldestOpen c.least_ticket.result b.journal) g.S.Tickets.meaning _ _ _ seen (oldest _ _ _ _ _ _ c.as_slice.ensures.value L c.least_ticket.ensures)
