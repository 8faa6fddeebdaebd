-- What the calls of a holding ask and what they leave, over the book that it works on.
use Rattle.std.specs.Prelude.{◌≡◌, ◌≢◌, ℕ, suc, ◌+◌, ◌<◌, ◌≤◌, ◌⊎◌}
use Rattle.std.specs.Prelude.{List, [], ◌∷◌, ◌++◌, Bool, true, false, Option, Some, None}
use Rattle.session_values.specs.declared.op.Op.{Op}
use Rattle.session_values.specs.declared.reply.Reply.{Reply}
use Rattle.session_values.specs.declared.value.Value.{Value}
use Rattle.session_values.specs.Tables.{reply}
use Rattle.symbolic_ops.specs.declared.symbol.Symbol.{Symbol}
use Rattle.session_journal.specs.Journal.{begun, ended}
use Rattle.session_journal.specs.Script.{Meaning}
use Rattle.admission_book.specs.Book.{Book, IsFree, IsBlocker, after_admit, after_begin}
use Rattle.admission_book.specs.Book.{after_delay, after_narrow, after_done, after_end}
use Rattle.admission_book.specs.declared.admission.Admission.{Admission}
use Rattle.admission_book.specs.declared.admission.Admission.TheVariants as admission
use Rattle.turn_board.specs.Boards.{held, note, caller, caller_count}
use Rattle.turn_board.specs.Boards.{given, lost, asks, givings, last_change}
use Rattle.hall_rule.specs.Contents.{Content, tables_after}
use Rattle.hall_rule.specs.Turns.{IsTurnOf}
use Rattle.session_hall.specs.declared.answers.Worked.{Worked}
use Rattle.session_hall.specs.declared.answers.Worked.TheVariants as worked
use Rattle.session_hall.specs.declared.holding.Holding.{Holding}
use Rattle.session_hall.specs.declared.stage.Stage.{Stage}
use Rattle.session_hall.specs.declared.stage.Stage.TheVariants.{Idle, Serving as Serves}
use Rattle.session_hall.specs.declared.stage.Stage.TheVariants.{InFlight, Applied, Out}
use Rattle.session_hall.specs.Callers.{book_of}
use Rattle.session_hall.specs.Calls.{IsBusy, MayFinishAt}
use Rattle.session_hall.specs.Findings.{Finds, IsTiedWith}
use Rattle.session_hall.specs.Holdings.{IsKept, begun_at, entries_at, foresight_at, present_book}
use Rattle.session_hall.specs.Stages.{OnServing, waiting, flying}
use Rattle.session_hall.specs.Waits.{OnlyBookLost}

-- ---- what is asked
-- the same of a holding, by its stage and the book that it works on
abbrev pub ByPresent : {S : Type 0} → Meaning → Holding S → (Meaning → Book → ℕ → Type 0) → Type 0
ByPresent m h P = OnServing h.caller.stage (λ t. P m (present_book h) t)

-- no operation is in flight, or done and not entered
abbrev pub IsQuiet : Stage → Type 0
IsQuiet Idle = Unit {0}
IsQuiet (Serves t) = Unit {0}
IsQuiet Out = Unit {0}
IsQuiet _ = ⊥

-- where a ticket is served, this is so of it
abbrev pub OfTicket : Stage → (ℕ → Type 0) → Type 0
OfTicket (Serves t) P = P t
OfTicket _ P = Unit {0}

-- no older open ticket delays the operation of the ticket that is served
abbrev pub IsFreeKept : {S : Type 0} → Holding S → Op → Type 0
IsFreeKept h op = OnServing h.caller.stage (λ t. IsFree (present_book h) t op)

-- the operation that was done in hand may be entered, and the list take the place of the foresight
abbrev pub MayEnter : {S : Type 0} → Meaning → Holding S → List Symbol → Type 0
MayEnter m h next = MayFinishAt m h.caller.stage (foresight_at h) (present_book h) next

-- ---- what is left
module _ {S : Type 0} (m : Meaning) (p q : Holding S) where
  -- no step was made, and the hands hold what they held: the seat is as it was
  pub record SameHand : Type 0 where
    pub seat_still : q.caller.seat ≡ p.caller.seat
    pub hands_still : q.caller.hands ≡ p.caller.hands
    pub number_still : q.caller.number ≡ p.caller.number
    pub kept : IsKept q.book

  -- ---- hold
  -- the book was taken in one step of the call, found so, and is in hand. There the hall's rule
  -- held. Of its caller's ticket nothing is new
  pub record TookBookAs (found : Book) : Type 0 where
    pub rule : IsTiedWith m p.caller.seat found
    pub finds : Finds m (book_of p.caller) found (caller p.caller.seat) (caller_count p.caller.seat)
    pub kept : IsKept q.book
    pub is : present_book q ≡ found
    pub stage_still : q.caller.stage ≡ p.caller.stage
    pub note_still : note q.caller.seat ≡ note p.caller.seat
    pub caller_still : caller q.caller.seat ≡ caller p.caller.seat
    pub given_still : given q.caller.seat ≡ given p.caller.seat
    pub lost_still : (u : ℕ) → lost q.caller.seat u ≡ lost p.caller.seat u
    pub asks_more : asks q.caller.seat ≡ asks p.caller.seat + 1
    pub givings_still : givings q.caller.seat ≡ givings p.caller.seat
    pub change_still : last_change q.caller.seat ≡ last_change p.caller.seat
    pub hands_still : q.caller.hands ≡ p.caller.hands
    pub foresight_still : foresight_at q ≡ foresight_at p
    pub begun_still : begun_at q ≡ begun_at p
    pub entries_still : OfTicket p.caller.stage (λ t. entries_at q t ≡ entries_at p t)

  -- what is answered and left: the book is in hand, or it is found taken
  abbrev pub TakesBook : Bool → Type 0
  TakesBook true = (found : Book) × TookBookAs found
  TakesBook false = (q.book ≡ None) × IsBusy m p.caller q.caller 0 (givings p.caller.seat)

  -- ---- release
  -- in one step the caller gave back the book in hand, with all shards that it had: that is its
  -- note now
  pub record GaveKept : Type 0 where
    pub none : q.book ≡ None
    pub noted : book_of q.caller ≡ present_book p
    pub stage_still : q.caller.stage ≡ p.caller.stage
    pub caller_still : caller q.caller.seat ≡ caller p.caller.seat
    pub given_more : given q.caller.seat ≡ given p.caller.seat + 1
    pub lost_still : (u : ℕ) → lost q.caller.seat u ≡ lost p.caller.seat u
    pub asks_still : asks q.caller.seat ≡ asks p.caller.seat
    pub givings_more : givings q.caller.seat ≡ givings p.caller.seat + 1
    pub holds_none : (u : ℕ) → held q.caller.seat u ≡ None

  -- ---- begin
  pub record BeganKept (t : ℕ) : Type 0 where
    pub hand : SameHand
    pub is : present_book q ≡ after_begin (present_book p) (caller p.caller.seat) (m.entry t)
    pub next : t ≡ begun (present_book p).journal
    pub within : t < m.requests
    pub stage_is : q.caller.stage ≡ Serves t
    pub foresight_is : foresight_at q ≡ m.entry t
    pub no_entries : entries_at q t ≡ []
    pub begun_more : begun_at q ≡ begun_at p ++ t ∷ []

  pub record FoundAllKept : Type 0 where
    pub hand : SameHand
    pub still : q.book ≡ p.book
    pub all : m.requests ≤ begun (present_book p).journal
    pub stage_is : q.caller.stage ≡ Out

  -- what is answered and left: a ticket is begun, or all are found begun
  abbrev pub BeginsKept : Option ℕ → Type 0
  BeginsKept (Some t) = BeganKept t
  BeginsKept None = FoundAllKept

  -- ---- declare
  pub record DeclaredKept (f : List Symbol) (t : ℕ) : Type 0 where
    pub hand : SameHand
    pub is : present_book q ≡ after_narrow (present_book p) (caller p.caller.seat)
        (waiting t (foresight_at p)) f
    pub stage_is : q.caller.stage ≡ Serves t
    pub foresight_is : foresight_at q ≡ f
    pub entries_still : entries_at q t ≡ entries_at p t
    pub begun_still : begun_at q ≡ begun_at p

  -- ---- admit
  -- no older open ticket delays it: nothing changed
  pub record AdmittedKept (op : Op) (t : ℕ) : Type 0 where
    pub hand : SameHand
    pub still : q.book ≡ p.book
    pub free : IsFree (present_book q) t op
    pub stage_is : q.caller.stage ≡ Serves t
    pub foresight_still : foresight_at q ≡ foresight_at p
    pub entries_still : entries_at q t ≡ entries_at p t
    pub begun_still : begun_at q ≡ begun_at p

  -- an older open ticket delays it. If that is the operation's first delay, it is noted in the
  -- journal in hand
  pub record DelayedKept (op : Op) (older : ℕ) (y : Symbol) (t : ℕ) : Type 0 where
    pub hand : SameHand
    pub noted : present_book q ≡ after_delay (present_book p) t op older y
    pub blocker : IsBlocker (present_book p) t op older y
    pub several : caller_count p.caller.seat ≢ 1
    pub stage_is : q.caller.stage ≡ Serves t
    pub foresight_still : foresight_at q ≡ foresight_at p
    pub entries_still : entries_at q t ≡ entries_at p t
    pub begun_still : begun_at q ≡ begun_at p

  abbrev pub AdmitsKept : Op → Admission → ℕ → Type 0
  AdmitsKept op admission.Admitted t = AdmittedKept op t
  AdmitsKept op (admission.Delayed older y) t = DelayedKept op older y t

  -- ---- launch
  -- in one step the caller put the operation in flight and gave back the book in hand, with all
  -- shards that it had: that is its note now
  pub record LaunchedKept (op : Op) (t : ℕ) : Type 0 where
    pub none : q.book ≡ None
    pub noted : book_of q.caller ≡ after_admit (present_book p) (caller p.caller.seat)
        (waiting t (foresight_at p)) op
    pub stage_is : q.caller.stage ≡ InFlight t op
    pub caller_still : caller q.caller.seat ≡ caller p.caller.seat
    pub given_more : given q.caller.seat ≡ given p.caller.seat + 1
    pub lost_still : (u : ℕ) → lost q.caller.seat u ≡ lost p.caller.seat u
    pub asks_still : asks q.caller.seat ≡ asks p.caller.seat
    pub givings_more : givings q.caller.seat ≡ givings p.caller.seat + 1
    pub holds_none : (u : ℕ) → held q.caller.seat u ≡ None
    pub foresight_still : foresight_at q ≡ foresight_at p
    pub entries_still : entries_at q t ≡ entries_at p t
    pub begun_still : begun_at q ≡ begun_at p

  -- ---- work
  -- the operation was done on its shards in hand: v is its reply after the journal in hand, and no
  -- older open ticket is against it. Turns that were taken for it are of it
  pub record WorkedKept (shards : ℕ) (op : Op) (v : Value) (t : ℕ) : Type 0 where
    pub still : q.book ≡ p.book
    pub free : IsFree (present_book p) t op
    pub reply_is : reply (tables_after m (present_book p).journal) op ≡ v
    pub stage_is : q.caller.stage ≡ Applied t op v
    pub note_still : note q.caller.seat ≡ note p.caller.seat
    pub caller_still : caller q.caller.seat ≡ caller p.caller.seat
    pub given_still : given q.caller.seat ≡ given p.caller.seat
    pub change_still : last_change q.caller.seat ≡ last_change p.caller.seat
    pub lost_still : (u : ℕ) → lost q.caller.seat u ≡ lost p.caller.seat u
    pub asks_most : (asks q.caller.seat ≡ asks p.caller.seat)
        ⊎ (asks q.caller.seat ≡ asks p.caller.seat + 1)
    pub givings_still : givings q.caller.seat ≡ givings p.caller.seat
    pub held_still : (u : ℕ) (x : Content S) → held p.caller.seat u ≡ Some x
        → held q.caller.seat u ≡ Some x
    pub new_of_operation : (j : ℕ) (x : Content S) → held q.caller.seat (suc j) ≡ Some x
        → held p.caller.seat (suc j) ≡ None → IsTurnOf shards op j

  -- one of the operation's turns that aren't in hand was found taken: nothing changed but what the
  -- seat counts
  pub record BusyKept (shards : ℕ) (op : Op) (u : ℕ) : Type 0 where
    pub still : q.book ≡ p.book
    pub after : ℕ
    pub busy : IsBusy m p.caller q.caller u after
    pub place : ℕ
    pub turn_is : u ≡ suc place
    pub of_operation : IsTurnOf shards op place

  abbrev pub WorksKept : ℕ → Op → Worked → Type 0
  WorksKept shards op (worked.Done v) = OnServing p.caller.stage (WorkedKept shards op v)
  WorksKept shards op (worked.Busy u) = BusyKept shards op u

  -- ---- enter
  pub record EnteredKept (next : List Symbol) (t : ℕ) (op : Op) (v : Value) : Type 0 where
    pub hand : SameHand
    pub is : present_book q ≡ after_done (present_book p) (caller p.caller.seat)
        (flying t (foresight_at p) op) op v next
    pub stage_is : q.caller.stage ≡ Serves t
    pub foresight_is : foresight_at q ≡ next
    pub entries_more : entries_at q t ≡ entries_at p t ++ record { op = op; reply = v } ∷ []
    pub begun_still : begun_at q ≡ begun_at p

  abbrev pub EnteredFrom : List Symbol → Stage → Type 0
  EnteredFrom next (Applied t op v) = EnteredKept next t op v
  EnteredFrom next _ = ⊥

  -- ---- end
  pub record EndedKept (r : Reply) (t : ℕ) : Type 0 where
    pub hand : SameHand
    pub is : present_book q ≡ after_end (present_book p) (caller p.caller.seat)
        (waiting t (foresight_at p)) r
    pub stage_is : q.caller.stage ≡ Idle
    pub foresight_is : foresight_at q ≡ []
    pub entries_still : entries_at q t ≡ entries_at p t
    pub is_begun : t < begun (present_book q).journal
    pub is_ended : ended (present_book q).journal t ≡ Some r
    pub begun_still : begun_at q ≡ begun_at p

-- after tries that found the book taken, it is in hand
abbrev pub HeldAfter : {S : Type 0} → Meaning → Holding S → Holding S → Type 0
HeldAfter m p q = (via : Holding _) × (via.book ≡ None) × OnlyBookLost p.caller via.caller
    × TakesBook m via q true × (q.caller.stage ≡ p.caller.stage) × (foresight_at q ≡ foresight_at p)
    × (begun_at q ≡ begun_at p)
    × OfTicket p.caller.stage (λ t. entries_at q t ≡ entries_at p t)
