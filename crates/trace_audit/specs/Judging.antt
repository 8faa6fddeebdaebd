-- What a judge keeps of the events so far. Only this crate's own functions cite it.
use Rattle.std.specs.Prelude.{◌≡◌, ◌≢◌, ℕ, ◌+◌, ◌<◌, ◌≤◌, ◌==◌, ◌&&◌, nat_lt, not, List, [], ◌∷◌, ◌++◌, Option, Some, None, IsSome, is_some, Bool, true, false, MatchOption, length, map, replicate, slice_index_or, slice_set}
use Rattle.std.specs.Bool.{MatchBool}
use Rattle.std.specs.List.{AllByRecursion}
use Rattle.session_values.specs.Limits.{max_callers}
use Rattle.session_values.specs.declared.op.Op.{Op}
use Rattle.session_values.specs.declared.reply.Reply.{Reply}
use Rattle.session_values.specs.Tables.{Tables, kind_of, step}
use Rattle.session_journal.specs.declared.event.Event.{Event}
use Rattle.session_journal.specs.Journal.{after, begun, ended, entries, owner}
use Rattle.session_journal.specs.Script.{IsScript, Meaning}
use Rattle.session_journal.specs.EventsInTurn.{is_delayed}
use Rattle.session_journal.specs.Traces.{HasKnownSymbol, max_events}
use Rattle.trace_audit.specs.declared.front.Front.{Front}
use Rattle.trace_audit.specs.declared.standing.Standing.{Standing}
use Rattle.session_journal.specs.declared.verdict.Verdict.{Verdict}
use Rattle.session_journal.specs.Accepted.{AreAllowed, IsAllowed}
use Rattle.trace_audit.specs.Desk.{IsRun, ReplayView, given_entries, next_call, replay_at}
use Rattle.session_journal.specs.Verdicts.{IsVerdict}

-- ---- what is judged
-- the ticket was run on its entries of the trace
pub record WasRun (m : Meaning) (J : List Event) (t : ℕ) (x : ReplayView) : Type 0 where
  pub reply : Reply
  pub answer : x.answer ≡ Some reply
  pub from_trace : x.entries ≡ entries J t
  pub run : IsRun (m.next t) (entries J t) x.kept reply

-- each ticket of the script was run on its entries of the trace
pub record WereRun (m : Meaning) (J : List Event) (rs : List ReplayView) : Type 0 where
  pub script : IsScript m
  pub count : length rs ≡ m.requests
  pub each : (t : ℕ) → t < m.requests → WasRun m J t (replay_at rs t)
  pub known : AllByRecursion HasKnownSymbol J
  pub few : length J ≤ max_events

-- the event at this place is the first that isn't allowed after those before it
pub record IsAgainst (m : Meaning) (J : List Event) (place : ℕ) : Type 0 where
  pub front : List Event
  pub event : Event
  pub back : List Event
  pub is : J ≡ front ++ event ∷ back
  pub count : length front ≡ place
  pub before : AreAllowed m [] front
  pub against : IsAllowed m front event → ⊥

-- ---- what is known of the events so far
abbrev pub no_standing : Standing
no_standing = record { done = 0; delayed = false; ended = false }

-- what a judge keeps: how many tickets have begun, for each caller its latest ticket, how each
-- ticket stands, and the tables
pub record FrontView : Type 0 where
  pub begun : ℕ
  pub latest : List (Option ℕ)
  pub standings : List Standing
  pub tables : Tables

abbrev pub front_of : Front → FrontView
front_of f = record {
  begun = f.begun;
  latest = f.latest.items;
  standings = f.standings.items;
  tables = f.tables;
}

abbrev pub standing_at : List Standing → ℕ → Standing
standing_at ss t = slice_index_or ss t no_standing

abbrev pub latest_of : List (Option ℕ) → ℕ → Option ℕ
latest_of ls c = slice_index_or ls c None

-- before any event, over these tables
abbrev pub opened : Tables → ℕ → FrontView
opened ts n = record {
  begun = 0;
  latest = replicate max_callers None;
  standings = replicate n no_standing;
  tables = ts;
}

-- how a ticket stands after the events F
pub record IsStanding (F : List Event) (t : ℕ) (s : Standing) : Type 0 where
  pub done : s.done ≡ length (entries F t)
  pub delayed : s.delayed ≡ is_delayed F t
  pub ended : s.ended ≡ is_some (ended F t)

-- the latest ticket of a caller: all its others have ended
abbrev pub IsLatest : List Event → ℕ → Option ℕ → Type 0
IsLatest F c None = (u : ℕ) → owner F u ≡ Some c → ⊥
IsLatest F c (Some t) = (owner F t ≡ Some c)
    × ((u : ℕ) → owner F u ≡ Some c → u ≢ t → IsSome (ended F u))

-- what is kept is that of the events F, which are allowed, and of no ticket are there more entries
-- than it was given
pub record IsFront (m : Meaning) (rs : List ReplayView) (F : List Event) (f : FrontView)
    : Type 0 where
  pub allowed : AreAllowed m [] F
  pub begun : f.begun ≡ begun F
  pub callers : length f.latest ≡ max_callers
  pub latest : (c : ℕ) → c < max_callers → IsLatest F c (latest_of f.latest c)
  pub count : length f.standings ≡ m.requests
  pub each : (t : ℕ) → t < m.requests → IsStanding F t (standing_at f.standings t)
  pub given : (t : ℕ) → t < m.requests
      → length (entries F t) ≤ given_entries (replay_at rs t).kept
  pub tables : f.tables ≡ after m.opening F
  pub kinds : map kind_of f.tables ≡ m.shape

-- ---- what a judge looks at
-- the caller's latest ticket has ended, where it has one
abbrev pub is_free : List Standing → Option ℕ → Bool
is_free ss None = true
is_free ss (Some u) = (standing_at ss u).ended

abbrev pub may_begin : FrontView → ℕ → ℕ → Bool
may_begin f t c = t == f.begun && nat_lt t (length f.standings) && nat_lt c (length f.latest)
    && is_free f.standings (latest_of f.latest c)

abbrev pub is_open : FrontView → ℕ → Bool
is_open f t = nat_lt t f.begun && not (standing_at f.standings t).ended

-- the operation that the ticket calls next
abbrev pub call_of : FrontView → List ReplayView → ℕ → Option Op
call_of f rs t =
    next_call (replay_at rs t).entries (replay_at rs t).kept (standing_at f.standings t).done

abbrev pub CallsNow : FrontView → List ReplayView → ℕ → Op → Type 0
CallsNow f rs t op = (is_open f t ≡ true) × (call_of f rs t ≡ Some op)

abbrev pub AnswersNow : FrontView → List ReplayView → ℕ → Reply → Type 0
AnswersNow f rs t r = (is_open f t ≡ true) × (call_of f rs t ≡ None)
    × ((replay_at rs t).answer ≡ Some r)

-- ---- what a judge notes
abbrev pub with_standing : FrontView → ℕ → Standing → FrontView
with_standing f t s = record {
  begun = f.begun;
  latest = f.latest;
  standings = slice_set f.standings t s;
  tables = f.tables;
}

abbrev pub begins : FrontView → ℕ → ℕ → FrontView
begins f t c = record {
  begun = f.begun + 1;
  latest = slice_set f.latest c (Some t);
  standings = f.standings;
  tables = f.tables;
}

abbrev pub done_at : FrontView → ℕ → Op → FrontView
done_at f t op = record {
  begun = f.begun;
  latest = f.latest;
  standings = slice_set f.standings t (record {
    done = (standing_at f.standings t).done + 1;
    delayed = false;
    ended = false;
  });
  tables = step f.tables op;
}

abbrev pub delayed_at : FrontView → ℕ → FrontView
delayed_at f t = with_standing f t (record {
  done = (standing_at f.standings t).done;
  delayed = true;
  ended = false;
})

abbrev pub ends_at : FrontView → ℕ → FrontView
ends_at f t = with_standing f t (record {
  done = (standing_at f.standings t).done;
  delayed = false;
  ended = true;
})

-- ---- a step of a judge
-- the event is the next one of a trace whose tickets were run, and what is kept is that of those
-- before
pub record IsNext (rs : List ReplayView) (e : Event) (f : FrontView) : Type 0 where
  pub meaning : Meaning
  pub events : List Event
  pub front : List Event
  pub back : List Event
  pub run : WereRun meaning events rs
  pub is : events ≡ front ++ e ∷ back
  pub kept : IsFront meaning rs front f

-- the next event is taken exactly where it is allowed, and then what is kept is that of one event
-- more
abbrev pub Takes : List ReplayView → Event → FrontView → Bool → FrontView → Type 0
Takes rs e old took new = (m : Meaning) (J F K : List Event) → WereRun m J rs → J ≡ F ++ e ∷ K
    → IsFront m rs F old
    → MatchBool took (IsAllowed m F e × IsFront m rs (F ++ e ∷ []) new) (IsAllowed m F e → ⊥)

-- no event was judged yet
pub record IsFirst (rs : List ReplayView) (J : List Event) (f : FrontView) : Type 0 where
  pub meaning : Meaning
  pub run : WereRun meaning J rs
  pub kept : IsFront meaning rs [] f

-- all events are allowed, or the first that isn't is at this place
abbrev pub JudgesEvents : List ReplayView → List Event → FrontView → Option ℕ → FrontView → Type 0
JudgesEvents rs J old at new = (m : Meaning) → WereRun m J rs → IsFront m rs [] old
    → MatchOption at (IsFront m rs J new) (λ place. IsAgainst m J place)

-- ---- the rules on the whole trace
-- all these tickets have ended, or the least that hasn't is this one
abbrev pub FindsOpen : List Standing → Option ℕ → Type 0
FindsOpen ss found = MatchOption found ((t : ℕ) → t < length ss → (standing_at ss t).ended ≡ true)
    (λ t. (t < length ss) × ((standing_at ss t).ended ≡ false)
    × ((u : ℕ) → u < t → (standing_at ss u).ended ≡ true))

-- the tickets of a trace of a session that opens with these tables were run
pub record MayJudge (ts : Tables) (rs : List ReplayView) (J : List Event) : Type 0 where
  pub meaning : Meaning
  pub opening : meaning.opening ≡ ts
  pub run : WereRun meaning J rs

-- all events of the trace are allowed, and what is kept is that of them
pub record IsWhole (ts : Tables) (rs : List ReplayView) (f : FrontView) : Type 0 where
  pub meaning : Meaning
  pub events : List Event
  pub opening : meaning.opening ≡ ts
  pub run : WereRun meaning events rs
  pub kept : IsFront meaning rs events f

-- the verdict is that on the trace, whatever session that opens with these tables the tickets were
-- run in
abbrev pub Judged : Tables → List ReplayView → List Event → Verdict → Type 0
Judged ts rs J v = (m : Meaning) → m.opening ≡ ts → WereRun m J rs → IsVerdict m J v
