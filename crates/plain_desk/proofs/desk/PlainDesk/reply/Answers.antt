use Rattle.std.proofs.Common.{◌≡◌, Some, subst}
use Rattle.session_values.specs.Serial.{serial}
use Rattle.session_journal.specs.Script.{session_of}
use Rattle.plain_desk.specs.PlainDesks.{PlainView}
use Rattle.plain_desk.proofs.Serving.{serial_at}
use Rattle.plain_desk.proofs.desk.PlainDesk.reply.Goals as goal

pub returns-clause-serial : goal.returns-clause-serial
returns-clause-serial g c =
    let P : PlainView g.row.S.Denot → Type 0 = λ v. (serial (session_of (g.S.Script.meaning v.script)) c.args.t).answer ≡ Some c.in_ok-ticket.ticket.now.reply in
    let found = c.in_ok-ticket.ensures.lookup in
    subst P c.self.view_is (serial_at _ _ _ _ _ _ c.self.invariant.serial c.deref.ensures.value found.3.0 found.1).answer
