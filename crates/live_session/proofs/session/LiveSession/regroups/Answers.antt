use Rattle.std.proofs.Common.{◌≡◌, ℕ, ◌≤◌, None, subst}
use Rattle.session_journal.specs.Journal.{Replays, by_ticket, run}
use Rattle.driven_tickets.specs.Acts.{done_in}
use Rattle.driven_tickets.specs.Desk.{DeskView, IsDesk, declared, state_of}
use Rattle.driven_tickets.proofs.Runs.{regroups_replay, regroups_tables}
use Rattle.driven_tickets.proofs.Tickets.{over}
use Rattle.live_session.specs.Live.{LiveView, desk_in}
use Rattle.live_session.specs.contracts.session.LiveSession.{the_view}
use Rattle.live_session.proofs.session.LiveSession.regroups.Goals as goal

pub returns-clause-desk : goal.returns-clause-desk
returns-clause-desk c = let P : LiveView → Type 0 = λ v. IsDesk (desk_in v) in subst P c.self.view_is c.self.invariant.0.desk

pub returns-clause-unborn : goal.returns-clause-unborn
returns-clause-unborn c =
    let v : LiveView = the_view c.self.inside in
    let P : LiveView → Type 0 = λ x. (t : ℕ) → x.tickets.next ≤ t → declared (desk_in x) t ≡ None in
    subst P c.self.view_is (λ t l. over 0 v.tickets.next v.tickets.tickets t c.self.invariant.0.desk.ascending l)

pub returns-clause-replays : goal.returns-clause-replays
returns-clause-replays c =
    let d : DeskView = desk_in (the_view c.self.inside) in
    let P : LiveView → Type 0 = λ x. Replays (desk_in x).opening (by_ticket x.tickets.next (done_in x.tickets.acts)) in
    subst P c.self.view_is (regroups_replay d.opening d.acts (state_of d) c.self.invariant.0.desk.run)

pub returns-clause-tables : goal.returns-clause-tables
returns-clause-tables c =
    let d : DeskView = desk_in (the_view c.self.inside) in
    let P : LiveView → Type 0 = λ x. run (desk_in x).opening (by_ticket x.tickets.next (done_in x.tickets.acts)) ≡ x.tables in
    subst P c.self.view_is (regroups_tables d.opening d.acts (state_of d) c.self.invariant.0.desk.run)
