use Rattle.std.proofs.Common.{◌≡◌, Some}
use Rattle.session_journal.specs.Script.{Meaning}
use Rattle.admission_book.specs.declared.admission.Admission.{Admission}
use Rattle.admission_book.specs.declared.admission.Admission.TheVariants.{Admitted, Delayed}
use Rattle.admission_book.specs.Book.{Book}
use Rattle.admission_book.specs.Lawful.{Lawful}
use Rattle.admission_book.specs.Methods.{IsOldestOpen}
use Rattle.admission_book.proofs.Inside.{view_lent}
use Rattle.admission_book.proofs.Shown.{there}
use Rattle.admission_book.proofs.Admits.{blocker_at, blocker_here, never_oldest}
use Rattle.admission_book.proofs.book.Book.judge.Goals as goal

pub returns-in-Some-clause-oldest : goal.returns-in-Some-clause-oldest
returns-in-Some-clause-oldest g c =
    let m = g.S.Tickets.meaning c.deref-inner.result.now.script in
    let seen = view_lent g.S.Tickets.meaning _ _ _ c.deref-inner.ensures c.self.view_is in
    let found = blocker_here m _ _ _ _ _ c.in-Some.b c.as_slice-records.ensures.value c.in-Some.is c.least_against.ensures in
    there (λ (m : Meaning) (b : Book). IsOldestOpen (Some c.args.t) b.journal → Lawful m b → ◌≡◌ {A = Admission} (Delayed c.in-Some.b.older c.in-Some.b.symbol) Admitted) g.S.Tickets.meaning _ _ _ seen
    (λ o L. never_oldest m _ c.args.t c.args.op.now _ _ L (blocker_at m _ _ _ _ _ _ _ found) o)
