-- When a list of events is accepted as the journal of a session.
use Rattle.std.specs.Prelude.{◌≡◌, ℕ, ◌<◌, List, [], ◌∷◌, ◌++◌, Some, false}
use Rattle.session_values.specs.Limits.{max_callers}
use Rattle.session_values.specs.declared.op.Op.{Op}
use Rattle.session_values.specs.declared.reply.Reply.{Reply}
use Rattle.session_values.specs.Dialogue.{Calls}
use Rattle.session_values.specs.Tables.{reply}
use Rattle.session_journal.specs.Symbol.{Symbol}
use Rattle.session_journal.specs.Commuting.{CommutesWith}
use Rattle.session_journal.specs.declared.event.Event.{Event}
use Rattle.session_journal.specs.declared.event.Event.TheVariants.{Begin, Done, Delay, End}
use Rattle.session_journal.specs.Journal.{after, ended, regrouped, Replays}
use Rattle.session_journal.specs.Script.{Meaning}
use Rattle.session_journal.specs.EventsInTurn.{IsOpen, MayBegin, MayBeDone, MayEnd, is_delayed, now}

-- an operation is delayed, once: the one that its open ticket calls, by an older ticket and a
-- symbol with which it doesn't commute. What the older ticket declared isn't asked, nor whether it
-- is open
pub record IsDelayAllowed (m : Meaning) (J : List Event) (t : ℕ) (op : Op) (older : ℕ)
    (s : Symbol) : Type 0 where
  pub is_open : IsOpen J t
  pub calls : now m J t ≡ Calls op
  pub is_older : older < t
  pub symbol : CommutesWith op s → ⊥
  pub once : is_delayed J t ≡ false

-- The event may come after the events J: the least ticket not begun begins, of one of 32 callers,
-- which has no open ticket; an open ticket does what it calls, with the reply that the tables after
-- J give; it is delayed; it ends with what it answers.
abbrev pub IsAllowed : Meaning → List Event → Event → Type 0
IsAllowed m J (Begin t c) = MayBegin m max_callers J t c
IsAllowed m J (Done t op v) = MayBeDone m J t op × (reply (after m.opening J) op ≡ v)
IsAllowed m J (Delay t op older s) = IsDelayAllowed m J t op older s
IsAllowed m J (End t r) = MayEnd m J t r

-- each event is allowed after those before it
abbrev pub AreAllowed : Meaning → List Event → List Event → Type 0
AreAllowed m front [] = Unit {0}
AreAllowed m front (e ∷ J) = IsAllowed m front e × AreAllowed m (front ++ e ∷ []) J

-- each of the tickets below n has ended
abbrev pub HaveEnded : ℕ → List Event → Type 0
HaveEnded n J = (t : ℕ) → t < n → (r : Reply) × (ended J t ≡ Some r)

-- each event is allowed after those before it, each request's ticket has ended, and regrouped by
-- ticket each entry replays
pub record Accepted (m : Meaning) (J : List Event) : Type 0 where
  pub allowed : AreAllowed m [] J
  pub ended : HaveEnded m.requests J
  pub regrouped : Replays m.opening (regrouped J)
