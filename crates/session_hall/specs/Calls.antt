-- What the try calls ask and what they leave, over a caller's note.
use Rattle.std.specs.Prelude.{◌≡◌, ◌≢◌, ℕ, suc, ◌+◌, ◌<◌, ◌≤◌, List, [], ◌∷◌, ◌++◌, Some}
use Rattle.session_values.specs.declared.op.Op.{Op}
use Rattle.session_values.specs.declared.reply.Reply.{Reply}
use Rattle.session_values.specs.declared.value.Value.{Value}
use Rattle.session_values.specs.Dialogue.{Calls, Answers, rest, replies}
use Rattle.symbolic_ops.specs.declared.symbol.Symbol.{Symbol}
use Rattle.symbolic_ops.specs.Matching.{Covered, Matches}
use Rattle.session_journal.specs.Journal.{begun, ended, entries}
use Rattle.session_journal.specs.Script.{Meaning, IsForesight}
use Rattle.admission_book.specs.Book.{Book, IsFree, IsBlocker, after_begin, after_narrow}
use Rattle.admission_book.specs.Book.{after_admit, after_delay, after_done, after_end}
use Rattle.session_journal.specs.EventsInTurn.{now}
use Rattle.admission_book.specs.Methods.{IsOldestOpen}
use Rattle.turn_board.specs.Boards.{held, note, caller, caller_count}
use Rattle.turn_board.specs.Boards.{given, lost, asks, givings, last_change}
use Rattle.turn_board.specs.Hands.{in_hands}
use Rattle.hall_rule.specs.Shards.{content_of}
use Rattle.hall_rule.specs.Turns.{IsTurnOf, WasDone}
use Rattle.session_hall.specs.declared.answers.Admitting.{Admitting}
use Rattle.session_hall.specs.declared.answers.Admitting.TheVariants as admitting
use Rattle.session_hall.specs.declared.answers.Applying.{Applying}
use Rattle.session_hall.specs.declared.answers.Applying.TheVariants as applying
use Rattle.session_hall.specs.declared.answers.Began.{Began}
use Rattle.session_hall.specs.declared.answers.Began.TheVariants as began
use Rattle.session_hall.specs.declared.answers.Declared.{Declared}
use Rattle.session_hall.specs.declared.answers.Declared.TheVariants as declared
use Rattle.session_hall.specs.declared.answers.Ending.{Ending}
use Rattle.session_hall.specs.declared.answers.Ending.TheVariants as ending
use Rattle.session_hall.specs.declared.answers.Finishing.{Finishing}
use Rattle.session_hall.specs.declared.answers.Finishing.TheVariants as finishing
use Rattle.session_hall.specs.declared.caller.Caller.{Caller}
use Rattle.session_hall.specs.declared.stage.Stage.{Stage}
use Rattle.session_hall.specs.declared.stage.Stage.TheVariants.{Idle, Serving as Serves}
use Rattle.session_hall.specs.declared.stage.Stage.TheVariants.{InFlight, Applied, Out}
use Rattle.session_hall.specs.Callers.{book_of, entries_of, foresight_of}
use Rattle.session_hall.specs.Findings.{Finds, IsTied, IsTiedWith}
use Rattle.session_hall.specs.Stages.{OnServing, OnFlight, waiting, flying}

-- ---- what is asked, of the ticket that is served, by the book of the note
abbrev pub ByNote : {S : Type 0} → Meaning → Caller S → (Meaning → Book → ℕ → Type 0) → Type 0
ByNote m c P = OnServing c.stage (λ t. P m (book_of c) t)

-- the list g may take the place of the foresight f
abbrev pub MayDeclare : List Symbol → List Symbol → Meaning → Book → ℕ → Type 0
MayDeclare f g m b t = Covered g f × IsForesight (rest (m.next t) (replies (entries b.journal t))) g

-- the operation is the one that is called, and the foresight matches it
abbrev pub MayCall : List Symbol → Op → Meaning → Book → ℕ → Type 0
MayCall f op m b t = (now m b.journal t ≡ Calls op) × Matches f op

-- the reply is the one that is answered
abbrev pub MayAnswer : Reply → Meaning → Book → ℕ → Type 0
MayAnswer r m b t = now m b.journal t ≡ Answers r

-- an operation was done on its shards, and the list may take the place of the foresight once it is
-- entered: what the ticket declares right after it covers the list
abbrev pub MayFinishAt : Meaning → Stage → List Symbol → Book → List Symbol → Type 0
MayFinishAt m (Applied t op v) f b next = Covered next f
    × IsForesight (rest (m.next t) (replies (entries b.journal t ++ record {
      op = op;
      reply = v;
    } ∷ []))) next × Covered next (m.told t (replies (entries b.journal t ++ record {
      op = op;
      reply = v;
    } ∷ [])))
MayFinishAt m _ f b next = ⊥

-- the same of a caller, by its stage, its foresight and the book of its note
abbrev pub MayFinish : {S : Type 0} → Meaning → Caller S → List Symbol → Type 0
MayFinish m c next = MayFinishAt m c.stage (foresight_of c) (book_of c) next

module _ {S : Type 0} (m : Meaning) (p q : Caller S) where
  -- the caller took the book in one step of the call, found it so, and gave it back so in another
  -- one, with all that it held: that is its note now. Where it found the book, the hall's rule held
  pub record GaveBack (found left : Book) : Type 0 where
    pub rule : IsTiedWith m p.seat found
    pub finds : Finds m (book_of p) found (caller p.seat) (caller_count p.seat)
    pub noted : book_of q ≡ left
    pub given_more : given q.seat ≡ given p.seat + 1
    pub lost_still : (u : ℕ) → lost q.seat u ≡ lost p.seat u
    pub asks_more : asks q.seat ≡ asks p.seat + 1
    pub givings_more : givings q.seat ≡ givings p.seat + 1

  -- the call's own step found the turn taken by another caller; the caller is as before, its steps
  -- that gave turns back are counted by its seat, and no step of the call changed a counted
  -- content. At that step the hall's rule held
  pub record IsBusy (u after : ℕ) : Type 0 where
    pub rule : IsTied m q.seat
    pub rose : lost q.seat u ≡ lost p.seat u + 1
    pub lost_grows : (w : ℕ) → lost p.seat w ≤ lost q.seat w
    pub several : caller_count p.seat ≢ 1
    pub asks_more : asks q.seat ≡ asks p.seat + 1
    pub givings_is : givings q.seat ≡ after
    pub change_still : last_change q.seat ≡ last_change p.seat
    pub stage_still : q.stage ≡ p.stage
    pub foresight_still : foresight_of q ≡ foresight_of p
    pub note_still : note q.seat ≡ note p.seat
    pub given_still : given q.seat ≡ given p.seat
    pub held_still : (w : ℕ) → held q.seat w ≡ held p.seat w
    pub hands_still : q.hands.pairs ≡ p.hands.pairs

  -- ---- begin
  pub record BeganTicket (t : ℕ) : Type 0 where
    pub found : Book
    pub gave : GaveBack found (after_begin found (caller p.seat) (m.entry t))
    pub next : t ≡ begun found.journal
    pub within : t < m.requests
    pub stage_is : q.stage ≡ Serves t
    pub foresight_is : foresight_of q ≡ m.entry t
    pub no_entries : entries_of q t ≡ []

  pub record FoundAllBegun : Type 0 where
    pub found : Book
    pub gave : GaveBack found found
    pub all : m.requests ≤ begun found.journal
    pub stage_is : q.stage ≡ Out

  -- what is answered and left: a ticket is begun, all are found begun, or the book is found taken
  abbrev pub BeganAs : Began → Type 0
  BeganAs (began.Ticket t) = BeganTicket t
  BeganAs began.AllBegun = FoundAllBegun
  BeganAs (began.Busy u) = (u ≡ 0) × IsBusy u (givings p.seat)

  -- ---- declare
  pub record DeclaredAt (f : List Symbol) (t : ℕ) : Type 0 where
    pub found : Book
    pub gave : GaveBack found (after_narrow found (caller p.seat) (waiting t (foresight_of p)) f)
    pub stage_is : q.stage ≡ Serves t
    pub foresight_is : foresight_of q ≡ f
    pub entries_still : entries_of q t ≡ entries_of p t

  -- what is answered and left: the list is declared, or the book is found taken
  abbrev pub DeclaredAs : List Symbol → Declared → Type 0
  DeclaredAs f declared.Yes = OnServing p.stage (DeclaredAt f)
  DeclaredAs f (declared.Busy u) = (u ≡ 0) × IsBusy u (givings p.seat)

  -- ---- admit
  pub record AdmittedAt (op : Op) (t : ℕ) : Type 0 where
    pub found : Book
    pub gave : GaveBack found (after_admit found (caller p.seat) (waiting t (foresight_of p)) op)
    pub free : IsFree found t op
    pub stage_is : q.stage ≡ InFlight t op
    pub foresight_still : foresight_of q ≡ foresight_of p
    pub entries_still : entries_of q t ≡ entries_of p t

  pub record DelayedAt (op : Op) (older : ℕ) (y : Symbol) (t : ℕ) : Type 0 where
    pub found : Book
    pub gave : GaveBack found (after_delay found t op older y)
    pub blocker : IsBlocker found t op older y
    pub not_oldest : IsOldestOpen (Some t) found.journal → ⊥
    pub several : caller_count p.seat ≢ 1
    pub stage_is : q.stage ≡ Serves t
    pub foresight_still : foresight_of q ≡ foresight_of p
    pub entries_still : entries_of q t ≡ entries_of p t

  -- what is answered and left: the operation is admitted or delayed, or the book is found taken
  abbrev pub AdmittedAs : Op → Admitting → Type 0
  AdmittedAs op admitting.Admitted = OnServing p.stage (AdmittedAt op)
  AdmittedAs op (admitting.Delayed older y) = OnServing p.stage (DelayedAt op older y)
  AdmittedAs op (admitting.Busy u) = (u ≡ 0) × IsBusy u (givings p.seat)

  -- ---- apply
  -- in one step the caller took the operation's turns, and holds no others; v is its reply behind
  -- every journal whose shards these are. At that step the hall's rule held, and what the caller
  -- holds counted
  pub record AppliedAt (turns : ℕ) (v : Value) (t : ℕ) (op : Op) : Type 0 where
    pub rule : IsTied m q.seat
    pub done : WasDone m turns op v (held q.seat) (in_hands content_of q.hands.pairs)
    pub stage_is : q.stage ≡ Applied t op v
    pub foresight_still : foresight_of q ≡ foresight_of p
    pub note_still : note q.seat ≡ note p.seat
    pub given_still : given q.seat ≡ given p.seat
    pub change_still : last_change q.seat ≡ last_change p.seat
    pub lost_still : (u : ℕ) → lost q.seat u ≡ lost p.seat u
    pub asks_more : asks q.seat ≡ asks p.seat + 1
    pub givings_still : givings q.seat ≡ givings p.seat

  -- One of the operation's turns was found taken. What was won of the others was given back in one
  -- step, and no step was made where nothing was.
  pub record IsBusyAt (shards u t : ℕ) (op : Op) : Type 0 where
    pub after : ℕ
    pub busy : IsBusy u after
    pub place : ℕ
    pub turn_is : u ≡ suc place
    pub of_operation : IsTurnOf shards op place
    pub some_won : (j : ℕ) → IsTurnOf shards op j → lost q.seat (suc j) ≡ lost p.seat (suc j)
        → after ≡ givings p.seat + 1
    pub none_won : ((j : ℕ) → IsTurnOf shards op j → lost q.seat (suc j) ≡ lost p.seat (suc j) + 1)
        → after ≡ givings p.seat

  -- what is answered and left: the operation is done on its shards, or a turn of it is found taken
  abbrev pub AppliedAs : ℕ → ℕ → Applying → Type 0
  AppliedAs shards turns (applying.Applied v) = OnFlight p.stage (AppliedAt turns v)
  AppliedAs shards turns (applying.Busy u) = OnFlight p.stage (IsBusyAt shards u)

  -- ---- finish
  pub record FinishedAt (next : List Symbol) (t : ℕ) (op : Op) (v : Value) : Type 0 where
    pub found : Book
    pub gave : GaveBack found (after_done found (caller p.seat) (flying t (foresight_of p) op)
        op v next)
    pub stage_is : q.stage ≡ Serves t
    pub foresight_is : foresight_of q ≡ next
    pub entries_more : entries_of q t ≡ entries_of p t ++ record { op = op; reply = v } ∷ []

  abbrev pub FinishedFrom : List Symbol → Stage → Type 0
  FinishedFrom next (Applied t op v) = FinishedAt next t op v
  FinishedFrom next _ = ⊥

  -- what is answered and left: the operation is entered, or the book is found taken
  abbrev pub FinishedAs : List Symbol → Finishing → Type 0
  FinishedAs next finishing.Done = FinishedFrom next p.stage
  FinishedAs next (finishing.Busy u) = (u ≡ 0) × IsBusy u (givings p.seat)

  -- ---- end
  pub record EndedAt (r : Reply) (t : ℕ) : Type 0 where
    pub found : Book
    pub gave : GaveBack found (after_end found (caller p.seat) (waiting t (foresight_of p)) r)
    pub stage_is : q.stage ≡ Idle
    pub foresight_is : foresight_of q ≡ []
    pub entries_still : entries_of q t ≡ entries_of p t
    pub is_begun : t < begun (book_of q).journal
    pub is_ended : ended (book_of q).journal t ≡ Some r

  -- what is answered and left: the ticket is ended, or the book is found taken
  abbrev pub EndedAs : Reply → Ending → Type 0
  EndedAs r ending.Ended = OnServing p.stage (EndedAt r)
  EndedAs r (ending.Busy u) = (u ≡ 0) × IsBusy u (givings p.seat)
