-- What renewing names does at a desk.
use Rattle.std.specs.Prelude.{◌≡◌, ℕ}
use Rattle.std.specs.declared.result.Result.{Result}
use Rattle.std.specs.declared.result.Result.TheVariants.{Ok, Err}
use Rattle.live_session.specs.declared.renewing.RenewError.{RenewError}
use Rattle.live_session.specs.declared.renewing.RenewError.TheVariants as unrenewed
use Rattle.live_session.specs.Renewing.{RenewAnswered}
use Rattle.foresight_c.specs.declared.desk.Desk.{Desk}
use Rattle.foresight_c.specs.declared.desk.Desk.TheVariants.{Tables, Session}
use Rattle.foresight_c.specs.declared.session_desk.SessionDesk.{SessionDesk}
use Rattle.foresight_c.specs.Numbers.{fine, full, no_memory, open_tickets, wrong}
use Rattle.foresight_c.specs.Tickets.{KeepsReplies}

-- why names aren't renewed
abbrev pub unrenewed_number : RenewError → ℕ
unrenewed_number unrenewed.Open = open_tickets
unrenewed_number unrenewed.NoNumber = full
unrenewed_number unrenewed.NoMemory = no_memory

abbrev pub renewed_number : Result (Unit {0}) RenewError → ℕ
renewed_number (Ok done) = fine
renewed_number (Err why) = unrenewed_number why

-- a session's names are renewed, or it is said why not
abbrev pub RenewAt : SessionDesk → SessionDesk → ℕ → Type 0
RenewAt d e n = (r : Result (Unit {0}) RenewError) × RenewAnswered d.session e.session r
    × KeepsReplies d e × (n ≡ renewed_number r)

-- at a desk: tables alone have no names
abbrev pub RenewOn : Desk → Desk → ℕ → Type 0
RenewOn (Session d) e n = (x : SessionDesk) × (e ≡ Session x) × RenewAt d x n
RenewOn (Tables d) e n = (e ≡ Tables d) × (n ≡ wrong)
