-- How many events an accepted list has at most.
use Rattle.std.proofs.Common.{ℕ, ◌+◌, ◌*◌, ◌≤◌, List, [], length, arith}
use Rattle.session_journal.specs.declared.event.Event.{Event}
use Rattle.session_journal.specs.declared.event.Event.TheVariants.{Begin, Done, Delay, End}
use Rattle.session_journal.specs.Script.{IsScript, Meaning, calls}
use Rattle.session_journal.proofs.EventCounts.{Counted, IsCountable, counted_none, counted_step, few_counted}
use Rattle.session_journal.specs.Accepted.{Accepted, IsAllowed}
use Rattle.session_journal.proofs.Allowed.{through_allowed}
use Rattle.session_journal.proofs.TraceSerial.{told}

countable : (m : Meaning) (J : List Event) (e : Event) → IsAllowed m J e → IsCountable m J e
countable m J (Begin t c) a = a.next
countable m J (Done t op v) a = a.0.is_open
countable m J (Delay t op older s) a = (a.is_open, a.calls, a.once)
countable m J (End t r) a = (a.is_open, a.answers)

-- a Begin and an End for each request, a Done and a Delay for each call
pub accepted_few : (m : Meaning) (J : List Event) → IsScript m → Accepted m J → length J ≤ 440000
accepted_few m J S a =
    let k : (t : ℕ) → Counted m t J = λ t. through_allowed m (Counted m t) (λ K e c h. counted_step m t K e c (countable m K e h)) [] J (counted_none m t) a.allowed in
    let n : length J ≤ 2 * m.requests + 2 * calls m = few_counted m J S k (told m J a.allowed).follows (told m J a.allowed).few in
    omega (arith, n, S.few_requests, S.few_calls)
