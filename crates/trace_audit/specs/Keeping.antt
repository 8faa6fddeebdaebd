-- What the fields of an audit's desk keep. Only this crate's own functions cite it.
use Rattle.std.specs.Prelude.{◌≡◌, ℕ, ◌<◌, List, [], ◌∷◌, ◌++◌, Option, Some, None, cond, nat_lt, length, slice_set}
use Rattle.session_values.specs.declared.reply.Reply.{Reply}
use Rattle.session_values.specs.Dialogue.{Entry}
use Rattle.session_journal.specs.declared.event.Event.{Event}
use Rattle.session_journal.specs.declared.event.Event.TheVariants.{Begin, Done, Delay, End}
use Rattle.session_journal.specs.Journal.{entries}
use Rattle.session_journal.specs.Script.{Meaning, IsScript}
use Rattle.trace_audit.specs.Desk.{IsRun, ReplayView, replay_at}

-- a ticket's replay is over its entries, and once it has answered what is kept is that of its run
pub record KeepsReplay (m : Meaning) (J : List Event) (t : ℕ) (x : ReplayView) : Type 0 where
  pub from_trace : x.entries ≡ entries J t
  pub run : (r : Reply) → x.answer ≡ Some r → IsRun (m.next t) (entries J t) x.kept r

-- there is a replay for each ticket, and the ticket that is set hasn't answered
pub record KeepsAudit (m : Meaning) (J : List Event) (turn : Option ℕ) (rs : List ReplayView)
    : Type 0 where
  pub script : IsScript m
  pub count : length rs ≡ m.requests
  pub each : (t : ℕ) → t < m.requests → KeepsReplay m J t (replay_at rs t)
  pub set : (t : ℕ) → turn ≡ Some t → (t < m.requests) × ((replay_at rs t).answer ≡ None)

-- ---- the replays while the trace is gathered
-- the replay with one entry more
abbrev pub with_entry : ReplayView → Entry → ReplayView
with_entry x e = record { entries = x.entries ++ e ∷ []; kept = x.kept; answer = x.answer }

-- an operation that was done is noted at its ticket, where there is one
abbrev pub noted : List ReplayView → Event → List ReplayView
noted rs (Done t op v) = cond (nat_lt t (length rs))
    (slice_set rs t (with_entry (replay_at rs t) (record { op = op; reply = v }))) rs
noted rs (Begin t c) = rs
noted rs (Delay t op older s) = rs
noted rs (End t r) = rs
