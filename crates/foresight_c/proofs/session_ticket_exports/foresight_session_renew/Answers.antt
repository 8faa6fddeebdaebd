use Rattle.std.proofs.Common.{Option, subst}
use Rattle.foresight_c.specs.Handles.{OnDesk}
use Rattle.foresight_c.specs.Renewals.{RenewOn}
use Rattle.foresight_c.specs.declared.desk.Desk.{Desk}
use Rattle.foresight_c.proofs.session_ticket_exports.foresight_session_renew.Goals as goal

pub returns-in-Some : goal.returns-in-Some
returns-in-Some c =
    let n = c.renew-number.result in
    let e : Desk = c.renew-number.new.self in
    let P : Option Desk → Type 0 = λ p. OnDesk p c.of.result.held.value n (λ x y. RenewOn x y n) in
    subst P c.in-Some.ensures.value (e, c.of.ensures, subst (λ (x : Desk). RenewOn x e n) c.deref_mut.ensures.value c.renew-number.ensures)
