use Rattle.std.proofs.Common.{◌≡◌, ℕ, ◌≤◌, None, subst}
use Rattle.session_journal.specs.Journal.{Replays, by_ticket, run}
use Rattle.driven_tickets.specs.Acts.{done_in}
use Rattle.driven_tickets.specs.Desk.{DeskView, IsDesk, declared, state_of}
use Rattle.driven_tickets.specs.contracts.driven_tables.DrivenTables.{the_view}
use Rattle.driven_tickets.proofs.Runs.{regroups_replay, regroups_tables}
use Rattle.driven_tickets.proofs.Tickets.{over}
use Rattle.driven_tickets.proofs.driven_tables.DrivenTables.regroups.Goals as goal

pub returns-clause-desk : goal.returns-clause-desk
returns-clause-desk c = let P : DeskView → Type 0 = λ x. IsDesk x in subst P c.self.view_is c.self.invariant

pub returns-clause-unborn : goal.returns-clause-unborn
returns-clause-unborn c =
    let d : DeskView = the_view c.self.inside in
    let P : DeskView → Type 0 = λ x. (t : ℕ) → x.next ≤ t → declared x t ≡ None in
    subst P c.self.view_is (λ t l. over 0 d.next d.tickets t c.self.invariant.ascending l)

pub returns-clause-replays : goal.returns-clause-replays
returns-clause-replays c =
    let d : DeskView = the_view c.self.inside in
    let P : DeskView → Type 0 = λ x. Replays x.opening (by_ticket x.next (done_in x.acts)) in
    subst P c.self.view_is (regroups_replay d.opening d.acts (state_of d) c.self.invariant.run)

pub returns-clause-tables : goal.returns-clause-tables
returns-clause-tables c =
    let d : DeskView = the_view c.self.inside in
    let P : DeskView → Type 0 = λ x. run x.opening (by_ticket x.next (done_in x.acts)) ≡ x.tables in
    subst P c.self.view_is (regroups_tables d.opening d.acts (state_of d) c.self.invariant.run)
