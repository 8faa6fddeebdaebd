-- The first fault of a list of events.
use Rattle.std.specs.Prelude.{◌≡◌, ℕ, suc, ◌<◌, List, [], ◌∷◌, ◌++◌, ◌⊎◌, None, length}
use Rattle.session_journal.specs.declared.event.Event.{Event}
use Rattle.session_journal.specs.declared.event.Event.TheVariants.{Begin, Done, Delay, End}
use Rattle.session_journal.specs.Journal.{done_operations, ended, by_ticket, Replays}
use Rattle.session_journal.specs.Script.{Meaning}
use Rattle.session_journal.specs.declared.verdict.Verdict.{Verdict}
use Rattle.session_journal.specs.declared.verdict.Verdict.TheVariants.{Accepted as IsFine, Event as AtEvent, Ticket as AtTicket}
use Rattle.session_journal.specs.Accepted.{Accepted, AreAllowed, IsAllowed, HaveEnded}

-- the number of the rule that an event of this kind breaks
abbrev pub rule_of : Event → ℕ
rule_of (Begin t c) = 1
rule_of (Done t op v) = 2
rule_of (Delay t op older s) = 3
rule_of (End t r) = 4

-- the first event that isn't allowed after those before it stands at this place
pub record FirstAgainst (m : Meaning) (J : List Event) (rule at : ℕ) : Type 0 where
  pub front : List Event
  pub event : Event
  pub back : List Event
  pub is : J ≡ front ++ event ∷ back
  pub place : length front ≡ at
  pub before : AreAllowed m [] front
  pub against : IsAllowed m front event → ⊥
  pub rule_is : rule_of event ≡ rule

-- all events are allowed, and the least ticket that hasn't ended is this one
pub record NotEnded (m : Meaning) (J : List Event) (ticket : ℕ) : Type 0 where
  pub allowed : AreAllowed m [] J
  pub before : HaveEnded ticket J
  pub exists : ticket < m.requests
  pub open_still : ended J ticket ≡ None

-- all are allowed, all tickets have ended, and the least ticket with an entry that doesn't replay,
-- when the entries are regrouped by ticket, is this one
pub record NotReplayed (m : Meaning) (J : List Event) (ticket : ℕ) : Type 0 where
  pub allowed : AreAllowed m [] J
  pub all_ended : HaveEnded m.requests J
  pub exists : ticket < m.requests
  pub before : Replays m.opening (by_ticket ticket (done_operations J))
  pub against : Replays m.opening (by_ticket (suc ticket) (done_operations J)) → ⊥

abbrev pub IsTicketFault : Meaning → List Event → ℕ → ℕ → Type 0
IsTicketFault m J rule t = ((rule ≡ 5) × NotEnded m J t) ⊎ ((rule ≡ 6) × NotReplayed m J t)

-- what is judged of a list of events
abbrev pub IsVerdict : Meaning → List Event → Verdict → Type 0
IsVerdict m J IsFine = Accepted m J
IsVerdict m J (AtEvent rule at) = FirstAgainst m J rule at
IsVerdict m J (AtTicket rule ticket) = IsTicketFault m J rule ticket
