use Rattle.std.proofs.Common.{Option, subst}
use Rattle.foresight_c.specs.Handles.{OnDesk}
use Rattle.foresight_c.specs.Tickets.{EndOn}
use Rattle.foresight_c.specs.declared.desk.Desk.{Desk}
use Rattle.foresight_c.proofs.session_ticket_exports.foresight_session_end.Goals as goal

pub returns-in-Some : goal.returns-in-Some
returns-in-Some c =
    let n = c.end-number.result in
    let e : Desk = c.end-number.new.self in
    let P : Option Desk → Type 0 = λ p. OnDesk p c.of.result.held.value n (λ x y. EndOn x y c.args.ticket n) in
    subst P c.in-Some.ensures.value (e, c.of.ensures, subst (λ (x : Desk). EndOn x e c.args.ticket n) c.deref_mut.ensures.value c.end-number.ensures)
