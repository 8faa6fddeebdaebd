use Rattle.std.proofs.Common.{◌≡◌, Bool, true, false, refl, ap, ◌∙◌, subst}
use Rattle.session_values.specs.Kinds.{is_adding}
use Rattle.session_values.specs.Tables.{Tables}
use Rattle.driven_tickets.specs.Acts.{Calls, IsFree}
use Rattle.driven_tickets.specs.Desk.{CalledAs, DeskView, FitsDesk, HasActed, IsDeclared, TicketsView, desk_over, state_of}
use Rattle.driven_tickets.specs.contracts.driven_tables.DrivenTables.{the_view}
use Rattle.driven_tickets.proofs.Following.{refused_by}
use Rattle.driven_tickets.proofs.Keeping.{Acted, called, desk_on}
use Rattle.driven_tickets.proofs.driven_tables.DrivenTables.call.Goals as goal

-- what alone may want memory
wants : (b : Bool) → (b ≡ false → false ≡ true) → b ≡ true
wants true sure = refl
wants false sure = sure refl

pub returns-in-Some : goal.returns-in-Some
returns-in-Some c =
    let d : DeskView = the_view c.self.inside in
    let P : DeskView → Type 0 = λ x. CalledAs x x c.args.ticket c.args.op c.in-Some.why in
    subst P c.self.view_is (refused_by (FitsDesk d) d c.args.ticket c.fits-fits.result c.args.op c.in-Some.why c.fits-fits.ensures (c.in-Some.ensures d.opening d.tables))

pub apply-requires : goal.apply-requires
apply-requires c =
    let d : DeskView = the_view c.self.inside in
    c.fits-fits.ensures.0 (c.in_default.ensures d.opening d.tables).0

pub invariant_of-self : goal.invariant_of-self
invariant_of-self c =
    let d : DeskView = the_view c.self.inside in
    let may = c.in_default.ensures d.opening d.tables in
    let e : DeskView = desk_over d.opening c.apply.new.self c.called.new.self in
    let done : Acted d e (Calls c.args.ticket c.args.op c.in-Ok.reply) =
    called d e c.self.invariant.ascending refl c.args.ticket c.args.op c.in-Ok.reply
    (ap (λ (k : TicketsView). k.acts) c.called.ensures) c.in-Ok.ensures.tables (ap (λ (k : TicketsView). k.next) c.called.ensures) (ap (λ (k : TicketsView). k.tickets) c.called.ensures)
    may.1 may.2 c.in-Ok.ensures.reply in
    desk_on d e (Calls c.args.ticket c.args.op c.in-Ok.reply) c.self.invariant done.acted done.ascending

pub returns-in-Ok : goal.returns-in-Ok
returns-in-Ok c =
    let d : DeskView = the_view c.self.inside in
    let may = c.in_default.ensures d.opening d.tables in
    let e : DeskView = desk_over d.opening c.apply.new.self c.called.new.self in
    let done : Acted d e (Calls c.args.ticket c.args.op c.in-Ok.reply) =
    called d e c.self.invariant.ascending refl c.args.ticket c.args.op c.in-Ok.reply
    (ap (λ (k : TicketsView). k.acts) c.called.ensures) c.in-Ok.ensures.tables (ap (λ (k : TicketsView). k.next) c.called.ensures) (ap (λ (k : TicketsView). k.tickets) c.called.ensures)
    may.1 may.2 c.in-Ok.ensures.reply in
    let P : DeskView → Type 0 = λ x. FitsDesk x c.args.op × HasActed x e (Calls c.args.ticket c.args.op c.in-Ok.reply) in
    subst P c.self.view_is (c.fits-fits.ensures.0 may.0, done.acted)

pub returns-in-Err : goal.returns-in-Err
returns-in-Err c =
    let d : DeskView = the_view c.self.inside in
    let may = c.in_default.ensures d.opening d.tables in
    let t = c.args.ticket in
    let P : DeskView → Type 0 = λ x. FitsDesk x c.args.op × IsDeclared x t c.args.op × IsFree (state_of x) t c.args.op in
    let held = subst P c.self.view_is (c.fits-fits.ensures.0 may.0, may.1, may.2) in
    let V : Tables → DeskView = λ ts. record d { tables = ts } in
    (ap V c.in-Err.ensures.err ∙ c.self.view_is, held.0, held.1, held.2, wants (is_adding c.args.op.kind) c.in-Err.ensures.sure)
