use Rattle.std.proofs.Common.{◌∙◌}
use Rattle.session_journal.specs.Script.{Meaning, IsScript}
use Rattle.admission_book.specs.Book.{Book}
use Rattle.admission_book.proofs.Inside.{view_lent}
use Rattle.admission_book.proofs.Shown.{kept_there, there}
use Rattle.admission_book.proofs.Replies.{serial_if}
use Rattle.admission_book.proofs.book.Book.reply.Goals as goal

pub returns-clause-kept : goal.returns-clause-kept
returns-clause-kept g c = c.reply.ensures ∙ kept_there _ _ _ c.args.t (view_lent g.S.Tickets.meaning _ _ _ c.deref.ensures c.self.view_is)

pub returns-clause-serial : goal.returns-clause-serial
returns-clause-serial g c = λ lawful.
    let script = there (λ (m : Meaning) (b : Book). IsScript m) g.S.Tickets.meaning _ _ _ c.self.view_is c.self.invariant.script in
    serial_if _ _ script lawful c.args.t c.reply.result (returns-clause-kept g c ∙ lawful.kept c.args.t)
