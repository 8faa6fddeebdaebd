-- What an audit keeps of the tickets while their handlers are run on the replies of a trace.
use Rattle.std.specs.Prelude.{◌≡◌, ◌≢◌, ℕ, ◌+◌, ◌-◌, ◌<◌, ◌≤◌, ◌==◌, nat_lt, if◌then◌else◌, ◌⊎◌, List, [], ◌++◌, Option, Some, None, IsSome, cond, length, take, slice_get, slice_index_or, slice_set, replicate}
use Rattle.std.specs.Option.{option_map}
use Rattle.session_values.specs.declared.op.Op.{Op}
use Rattle.session_values.specs.declared.reply.Reply.{Reply}
use Rattle.session_values.specs.declared.value.Value.{Value}
use Rattle.session_values.specs.declared.value.Value.TheVariants.{Nil}
use Rattle.session_values.specs.Dialogue.{Next, Calls, Answers, Dialogue, Entry, Follows, replies}
use Rattle.session_journal.specs.declared.event.Event.{Event}
use Rattle.session_journal.specs.Journal.{entries}
use Rattle.session_journal.specs.Script.{Meaning}

-- the first call at which the trace has another operation, or none
pub record Break : Type 0 where
  pub place : ℕ
  pub op : Op

-- what is kept of a ticket: how many calls were answered, and the break
pub record Kept : Type 0 where
  pub calls : ℕ
  pub broken : Option Break

abbrev pub nothing_kept : Kept
nothing_kept = record { calls = 0; broken = None }

-- the last number of 64 bits
abbrev pub last_count : ℕ
last_count = 18446744073709551615

-- one more, up to the last number of 64 bits
abbrev pub more : ℕ → ℕ
more n = cond (n == last_count) n (n + 1)

-- another operation stands there, or none
abbrev pub HasOther : List Entry → ℕ → Op → Type 0
HasOther es n op = (e : Entry) → slice_get es n ≡ Some e → e.op ≡ op → ⊥

-- the trace has this operation there: its reply is given
pub record Agrees (es : List Entry) (k : Kept) (op : Op) (v : Value) (l : Kept) : Type 0 where
  pub going : k.broken ≡ None
  pub there : slice_get es k.calls ≡ Some (record { op = op; reply = v })
  pub after : l ≡ record { calls = more k.calls; broken = None }

-- the trace has another operation there, or none: the break is noted
pub record Breaks (es : List Entry) (k : Kept) (op : Op) (v : Value) (l : Kept) : Type 0 where
  pub going : k.broken ≡ None
  pub other : HasOther es k.calls op
  pub nil : v ≡ Nil
  pub after : l ≡ record {
    calls = more k.calls;
    broken = Some (record { place = k.calls; op = op });
  }

-- behind the break nil is given
pub record GoesPast (k : Kept) (v : Value) (l : Kept) : Type 0 where
  pub gap : Break
  pub is : k.broken ≡ Some gap
  pub nil : v ≡ Nil
  pub after : l ≡ record { calls = more k.calls; broken = Some gap }

-- how a call of a ticket with these entries is answered
abbrev pub IsAnswered : List Entry → Kept → Op → Value → Kept → Type 0
IsAnswered es k op v l = Agrees es k op v l ⊎ (Breaks es k op v l ⊎ GoesPast k v l)

-- how many entries of the trace were given
abbrev pub given_entries : Kept → ℕ
given_entries k = elim k.broken [ None ↦ k.calls | Some b ↦ b.place ]

-- the replies that were given: those of the trace before the break, and nil from there on
abbrev pub given : List Entry → Kept → List Value
given es k = replies (take (given_entries k) es) ++ replicate (k.calls - given_entries k) Nil

-- what is kept is that of a whole run: the entries given are what the dialogue calls, and so is the
-- operation at the break, which the trace hasn't there; after all that was given it answers
pub record IsRun (f : Dialogue) (es : List Entry) (k : Kept) (r : Reply) : Type 0 where
  pub within : given_entries k ≤ length es
  pub follows : Follows f (take (given_entries k) es)
  pub breaks : (b : Break) → k.broken ≡ Some b → f (replies (take b.place es)) ≡ Calls b.op
  pub other : (b : Break) → k.broken ≡ Some b → HasOther es b.place b.op
  pub answers : f (given es k) ≡ Answers r

-- what contracts see of one ticket's replay: its entries in the trace, what is kept of its run on
-- them, and the Reply once it has answered
pub record ReplayView : Type 0 where
  pub entries : List Entry
  pub kept : Kept
  pub answer : Option Reply

-- before a ticket is run
abbrev pub fresh : List Entry → ReplayView
fresh es = record { entries = es; kept = nothing_kept; answer = None }

-- one answer of a ticket's replay
pub record Answering (old : ReplayView) (op : Op) (v : Value) (new : ReplayView) : Type 0 where
  pub entries : new.entries ≡ old.entries
  pub kept : IsAnswered old.entries old.kept op v new.kept
  pub answer : new.answer ≡ old.answer

-- ---- all tickets
-- what contracts see of an audit's desk: its script, the events of its trace, the ticket that is
-- set, and each ticket's replay
pub record AuditView (S : Type 0) : Type 0 where
  pub script : S
  pub events : List Event
  pub turn : Option ℕ
  pub tickets : List ReplayView

-- the replay of a ticket, and that of no entries past the last one
abbrev pub replay_at : List ReplayView → ℕ → ReplayView
replay_at rs t = slice_index_or rs t (fresh [])

-- the ticket that is set answers, and no other changes
pub record TurnAnswers (old : List ReplayView) (t : ℕ) (op : Op) (v : Value)
    (new : List ReplayView) : Type 0 where
  pub exists : t < length old
  pub replay : ReplayView
  pub answering : Answering (replay_at old t) op v replay
  pub after : new ≡ slice_set old t replay

-- where no ticket is set nil is given and nothing is kept
abbrev pub IsTurnAnswered : List ReplayView → Option ℕ → Op → Value → List ReplayView → Type 0
IsTurnAnswered old None op v new = (v ≡ Nil) × (new ≡ old)
IsTurnAnswered old (Some t) op v new = TurnAnswers old t op v new

-- one answer of an audit's desk
pub record AuditStep {S : Type 0} (old : AuditView S) (op : Op) (v : Value) (new : AuditView S)
    : Type 0 where
  pub script : new.script ≡ old.script
  pub events : new.events ≡ old.events
  pub turn : new.turn ≡ old.turn
  pub tickets : IsTurnAnswered old.tickets old.turn op v new.tickets

-- the ticket that is set may have changed, and nothing else has
pub record KeepsOthers {S : Type 0} (old new : AuditView S) (t : ℕ) : Type 0 where
  pub script : new.script ≡ old.script
  pub events : new.events ≡ old.events
  pub turn : new.turn ≡ old.turn
  pub count : length new.tickets ≡ length old.tickets
  pub others : (u : ℕ) → u ≢ t → replay_at new.tickets u ≡ replay_at old.tickets u

-- the replays of n tickets, none of which was run, over the entries of these events
pub record AreGathered (n : ℕ) (J : List Event) (rs : List ReplayView) : Type 0 where
  pub count : length rs ≡ n
  pub each : (t : ℕ) → t < n → replay_at rs t ≡ fresh (entries J t)

-- each ticket has answered
abbrev pub AreAnswered : ℕ → List ReplayView → Type 0
AreAnswered n rs = (t : ℕ) → t < n → IsSome (replay_at rs t).answer

-- what may be kept as a ticket's Reply: a ticket is set, its count isn't at its end, and what was
-- kept of it is a run of its dialogue that ends with this Reply
pub record MayAnswer {S : Type 0} (m : Meaning) (d : AuditView S) (r : Reply) : Type 0 where
  pub ticket : ℕ
  pub set : d.turn ≡ Some ticket
  pub few : (replay_at d.tickets ticket).kept.calls < last_count
  pub run : IsRun (m.next ticket) (entries d.events ticket) (replay_at d.tickets ticket).kept r

-- the replay with its Reply
abbrev pub with_answer : ReplayView → Reply → ReplayView
with_answer x r = record { entries = x.entries; kept = x.kept; answer = Some r }

-- the desk after the ticket that is set has answered
abbrev pub tickets_answered : List ReplayView → Option ℕ → Reply → List ReplayView
tickets_answered rs None r = rs
tickets_answered rs (Some t) r = slice_set rs t (with_answer (replay_at rs t) r)

-- ---- what comes next
-- it calls the operation, where there is one, and else it answers
abbrev pub next_of : Reply → Option Op → Next
next_of r None = Answers r
next_of r (Some op) = Calls op

-- the operation that the ticket calls after its first n entries of the trace, by what is kept of
-- it: that of its next entry, or past the entries given that of the break
abbrev pub next_call : List Entry → Kept → ℕ → Option Op
next_call es k n =
    if nat_lt n (given_entries k) then option_map (λ (e : Entry). e.op) (slice_get es n)
    else option_map (λ (b : Break). b.op) k.broken

-- what the ticket does after its first n entries of the trace, by what is kept of it
abbrev pub kept_next : List Entry → Kept → Reply → ℕ → Next
kept_next es k r n = next_of r (next_call es k n)
