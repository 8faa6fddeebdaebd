use Rattle.std.proofs.Common.{◌≡◌, subst}
use Rattle.session_values.specs.ReplyText.{reply_text}
use Rattle.session_values.specs.Serial.{serial_replies, tables_before}
use Rattle.serve_faults.specs.Input.{Parts}
use Rattle.serve_faults.specs.Session.{replies_text, tables_text}
use Rattle.live_session.specs.Live.{IsLive, IsOneFile, IsUndriven, LiveView, dump_of, session_in}
use Rattle.live_session.specs.contracts.session.LiveSession.{the_view}
use Rattle.live_session.proofs.OneFile.{answers_are, dump_is, tables_are, text_is}
use Rattle.live_session.proofs.session.LiveSession.answered_as_served.Goals as goal

pub returns-clause-live : goal.returns-clause-live
returns-clause-live c = let P : LiveView → Type 0 = λ v. IsLive v in subst P c.self.view_is c.self.invariant.0

pub returns-clause-replies : goal.returns-clause-replies
returns-clause-replies c =
    let P : LiveView → Type 0 = λ v. IsUndriven v → v.replies ≡ serial_replies (session_in v) (session_in v).requests in
    subst P c.self.view_is (answers_are (the_view c.self.inside) c.self.invariant.0)

pub returns-clause-tables : goal.returns-clause-tables
returns-clause-tables c =
    let P : LiveView → Type 0 = λ v. IsUndriven v → v.tables ≡ tables_before (session_in v) (session_in v).requests in
    subst P c.self.view_is (tables_are (the_view c.self.inside) c.self.invariant.0)

pub returns-clause-text : goal.returns-clause-text
returns-clause-text c =
    let P : LiveView → Type 0 = λ v. (parts : Parts) → IsUndriven v → IsOneFile v parts → replies_text parts v.file ≡ reply_text v.names 0 v.replies in
    subst P c.self.view_is (λ parts alone. text_is (the_view c.self.inside) c.self.invariant.0 alone parts)

pub returns-clause-dump : goal.returns-clause-dump
returns-clause-dump c =
    let P : LiveView → Type 0 = λ v. (parts : Parts) → IsUndriven v → IsOneFile v parts → tables_text parts v.file ≡ dump_of v in
    subst P c.self.view_is (λ parts alone. dump_is (the_view c.self.inside) c.self.invariant.0 alone parts)
