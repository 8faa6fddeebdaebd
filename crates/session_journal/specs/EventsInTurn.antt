-- The events of a journal, as tickets that follow their dialogues make them one after another.
use Rattle.std.specs.Prelude.{◌≡◌, ℕ, ◌<◌, ◌==◌, List, [], ◌∷◌, ◌++◌, Some, None, IsSome, Bool, true, false, cond}
use Rattle.session_values.specs.declared.op.Op.{Op}
use Rattle.session_values.specs.declared.reply.Reply.{Reply}
use Rattle.symbolic_ops.specs.declared.symbol.Symbol.{Symbol}
use Rattle.symbolic_ops.specs.Matching.{Covered}
use Rattle.session_journal.specs.declared.event.Event.{Event}
use Rattle.session_journal.specs.declared.event.Event.TheVariants.{Begin, Done, Delay, End}
use Rattle.symbolic_ops.specs.Commuting.{CommutesWith}
use Rattle.session_journal.specs.Journal.{entries, begun, ended, owner, ticket_of}
use Rattle.session_values.specs.Dialogue.{Next, Calls, Answers, Dialogue, Entry, rest, replies}
use Rattle.session_journal.specs.Script.{IsForesight, Meaning}

-- a ticket is open: it is begun and not ended
pub record IsOpen (J : List Event) (t : ℕ) : Type 0 where
  pub begun : t < begun J
  pub not_ended : ended J t ≡ None

-- what the ticket does after its entries
abbrev pub now : Meaning → List Event → ℕ → Next
now m J t = m.next t (replies (entries J t))

-- what a ticket declares after these entries: at its beginning, or right after its last operation
abbrev pub declared_after : Meaning → ℕ → List Entry → List Symbol
declared_after m t [] = m.entry t
declared_after m t (e ∷ es) = m.told t (replies (e ∷ es))

-- The symbol is in a list that the ticket may have as its foresight after the events J: the list
-- covers what the ticket may still do, and what the ticket declared last covers the list.
pub record IsForeseen (m : Meaning) (J : List Event) (t : ℕ) (s : Symbol) : Type 0 where
  pub foresight : List Symbol
  pub front : List Symbol
  pub back : List Symbol
  pub is : foresight ≡ front ++ s ∷ back
  pub covers : IsForesight (rest (m.next t) (replies (entries J t))) foresight
  pub declared : Covered foresight (declared_after m t (entries J t))

-- whether the last event of ticket t is a Delay, where b says so before this event
abbrev pub delayed_after : ℕ → Event → Bool → Bool
delayed_after t (Begin u c) b = cond (u == t) false b
delayed_after t (Done u op r) b = cond (u == t) false b
delayed_after t (Delay u op older s) b = cond (u == t) true b
delayed_after t (End u r) b = cond (u == t) false b

abbrev pub is_delayed_from : Bool → List Event → ℕ → Bool
is_delayed_from b [] t = b
is_delayed_from b (e ∷ J) t = is_delayed_from (delayed_after t e b) J t

-- the last event of the ticket is a Delay
abbrev pub is_delayed : List Event → ℕ → Bool
is_delayed J t = is_delayed_from false J t

-- a ticket begins: it is the next one, of a caller of the book whose earlier tickets have ended
pub record MayBegin (m : Meaning) (callers : ℕ) (J : List Event) (t c : ℕ) : Type 0 where
  pub next : t ≡ begun J
  pub left : t < m.requests
  pub caller : c < callers
  pub others : (u : ℕ) → owner J u ≡ Some c → IsSome (ended J u)

-- an operation is done: the one that its open ticket calls
pub record MayBeDone (m : Meaning) (J : List Event) (t : ℕ) (op : Op) : Type 0 where
  pub is_open : IsOpen J t
  pub calls : now m J t ≡ Calls op

-- an operation is delayed: the one that its open ticket calls, by an older open ticket and a symbol
-- of that ticket's foresight with which it doesn't commute, and once
pub record MayBeDelayed (m : Meaning) (J : List Event) (t : ℕ) (op : Op) (older : ℕ)
    (s : Symbol) : Type 0 where
  pub is_open : IsOpen J t
  pub calls : now m J t ≡ Calls op
  pub is_older : older < t
  pub older_is_open : IsOpen J older
  pub symbol : CommutesWith op s → ⊥
  pub named : IsForeseen m J older s
  pub once : is_delayed J t ≡ false

-- a ticket ends: with what it answers
pub record MayEnd (m : Meaning) (J : List Event) (t : ℕ) (r : Reply) : Type 0 where
  pub is_open : IsOpen J t
  pub answers : now m J t ≡ Answers r

-- the event may come after the events J
abbrev pub MayCome : Meaning → ℕ → List Event → Event → Type 0
MayCome m callers J (Begin t c) = MayBegin m callers J t c
MayCome m callers J (Done t op r) = MayBeDone m J t op
MayCome m callers J (Delay t op older s) = MayBeDelayed m J t op older s
MayCome m callers J (End t r) = MayEnd m J t r

-- each event may come after those before it
abbrev pub ComeInTurn : Meaning → ℕ → List Event → List Event → Type 0
ComeInTurn m callers front [] = Unit {0}
ComeInTurn m callers front (e ∷ J) = MayCome m callers front e
    × ComeInTurn m callers (front ++ e ∷ []) J

-- ---- the events of one ticket
abbrev pub events_of : ℕ → List Event → List Event
events_of t [] = []
events_of t (e ∷ J) = cond (ticket_of e == t) (e ∷ events_of t J) (events_of t J)

-- after its Begin: for each call at most one Delay and then its Done; then at most one Delay of the
-- next call; last its End. f is the dialogue from here on, and `noted` says whether the present
-- call has its Delay
abbrev pub TellsOn : Dialogue → Bool → List Event → Type 0
TellsOn f noted [] = Unit {0}
TellsOn f noted (Done t op r ∷ K) = (f [] ≡ Calls op) × TellsOn (rest f (r ∷ [])) false K
TellsOn f noted (Delay t op older y ∷ K) = (noted ≡ false) × (f [] ≡ Calls op) × (older < t)
    × (CommutesWith op y → ⊥) × TellsOn f true K
TellsOn f noted (End t r ∷ K) = (f [] ≡ Answers r) × (K ≡ [])
TellsOn f noted (Begin t c ∷ K) = ⊥

-- a ticket's events: none yet, or its Begin and what comes after it
abbrev pub TellsAll : Dialogue → List Event → Type 0
TellsAll f [] = Unit {0}
TellsAll f (Begin t c ∷ K) = TellsOn f false K
TellsAll f (_ ∷ K) = ⊥
