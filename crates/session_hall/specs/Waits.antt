-- What the waiting calls leave: what the last try leaves, from a caller that differs from the first
-- one by failed attempts.
use Rattle.std.specs.Prelude.{◌≡◌, ℕ, zero, suc, ◌+◌, ◌≤◌, ◌⊎◌}
use Rattle.std.specs.Prelude.{List, [], ◌∷◌, ◌++◌, Option, Some, None}
use Rattle.session_values.specs.declared.op.Op.{Op}
use Rattle.session_values.specs.declared.reply.Reply.{Reply}
use Rattle.session_values.specs.declared.value.Value.{Value}
use Rattle.symbolic_ops.specs.declared.symbol.Symbol.{Symbol}
use Rattle.session_journal.specs.Script.{Meaning}
use Rattle.admission_book.specs.Methods.{Grows}
use Rattle.turn_board.specs.Boards.{held, note, caller, given, lost, asks, givings, last_change}
use Rattle.session_hall.specs.declared.caller.Caller.{Caller}
use Rattle.session_hall.specs.declared.stage.Stage.{Stage}
use Rattle.session_hall.specs.declared.stage.Stage.TheVariants.{Applied}
use Rattle.session_hall.specs.Begun.{begun_by}
use Rattle.session_hall.specs.Callers.{book_of, entries_of, foresight_of}
use Rattle.session_hall.specs.Calls.{BeganTicket, FoundAllBegun, DeclaredAt, AdmittedAt}
use Rattle.session_hall.specs.Calls.{DelayedAt, AppliedAt, FinishedAt, EndedAt, IsBusy, IsBusyAt}
use Rattle.session_hall.specs.Stages.{OnServing, OnFlight}

module _ {S : Type 0} (p q : Caller S) where
  -- So many tries that found a turn taken: each asked once, the caller holds what it held, and no
  -- step of theirs changed a counted content.
  pub record OnlyLost (tries : ℕ) : Type 0 where
    pub number_still : q.number ≡ p.number
    pub caller_still : caller q.seat ≡ caller p.seat
    pub stage_still : q.stage ≡ p.stage
    pub foresight_still : foresight_of q ≡ foresight_of p
    pub note_still : note q.seat ≡ note p.seat
    pub given_still : given q.seat ≡ given p.seat
    pub change_still : last_change q.seat ≡ last_change p.seat
    pub held_still : (u : ℕ) → held q.seat u ≡ held p.seat u
    pub hands_still : q.hands.pairs ≡ p.hands.pairs
    pub lost_grows : (u : ℕ) → lost p.seat u ≤ lost q.seat u
    pub asked : asks q.seat ≡ asks p.seat + tries

  -- tries each of which found the book taken: nothing was given back
  pub record OnlyBookLost : Type 0 where
    pub tries : ℕ
    pub only : OnlyLost tries
    pub found : lost q.seat 0 ≡ lost p.seat 0 + tries
    pub givings_still : givings q.seat ≡ givings p.seat

  -- Tries that found the book taken, or the operation delayed: each asked for the book once, and
  -- lost it or gave it back once. The caller holds what it held.
  pub record OnlyDelayed (t : ℕ) : Type 0 where
    pub number_still : q.number ≡ p.number
    pub caller_still : caller q.seat ≡ caller p.seat
    pub begun_still : begun_by q ≡ begun_by p
    pub stage_still : q.stage ≡ p.stage
    pub foresight_still : foresight_of q ≡ foresight_of p
    pub journal_grows : Grows (book_of p).journal (book_of q).journal
    pub entries_still : entries_of q t ≡ entries_of p t
    pub given_grows : given p.seat ≤ given q.seat
    pub held_still : (u : ℕ) → held q.seat u ≡ held p.seat u
    pub hands_still : q.hands.pairs ≡ p.hands.pairs
    pub lost_grows : (u : ℕ) → lost p.seat u ≤ lost q.seat u
    pub losses : ℕ
    pub delays : ℕ
    pub asked : asks q.seat ≡ asks p.seat + losses + delays
    pub found : lost q.seat 0 ≡ lost p.seat 0 + losses
    pub gave : given q.seat ≡ given p.seat + delays
    pub givings_more : givings q.seat ≡ givings p.seat + delays

-- n tries, one after another, each of which leaves this
abbrev pub Tries : {S : Type 0} → (Caller S → Caller S → Type 0) → ℕ → Caller S → Caller S → Type 0
Tries Leaves zero p q = q ≡ p
Tries {S} Leaves (suc n) p q = (r : Caller S) × Tries Leaves n p r × Leaves r q

module _ {S : Type 0} (m : Meaning) (shards : ℕ) where
  -- a try that found one of the operation's turns taken
  abbrev pub IsVain : Caller S → Caller S → Type 0
  IsVain p q = OnFlight p.stage (λ t op. (u : ℕ) × IsBusyAt m p q shards u t op)

  -- tries each of which found one of the operation's turns taken, and gave back in one step what it
  -- won of the others, where it won any: as the try call says
  pub record OnlyShardLost (p q : Caller S) : Type 0 where
    pub tries : ℕ
    pub only : OnlyLost p q tries
    pub each : Tries IsVain tries p q

module _ {S : Type 0} (m : Meaning) (op : Op) where
  -- a failed attempt to admit the operation: it found the book taken and gave nothing back, or it
  -- found a blocker, entered the delay and gave the book back once, as the try call says
  abbrev pub IsFailedAdmit : Caller S → Caller S → Type 0
  IsFailedAdmit p q = OnServing p.stage (λ t. IsBusy m p q 0 (givings p.seat)
      ⊎ ((older : ℕ) × (y : Symbol) × DelayedAt m p q op older y t))

  -- failed attempts alone, one after another: each has its cause
  pub record OnlyWaited (p q : Caller S) (t : ℕ) : Type 0 where
    pub tries : ℕ
    pub only : OnlyDelayed p q t
    pub each : Tries IsFailedAdmit tries p q

module _ {S : Type 0} (m : Meaning) (p q : Caller S) where
  -- after tries that found the book taken, ticket t is begun, or all are found begun
  abbrev pub BegunAfter : Option ℕ → Type 0
  BegunAfter (Some t) = (via : Caller S) × OnlyBookLost p via × BeganTicket m via q t
  BegunAfter None = (via : Caller S) × OnlyBookLost p via × FoundAllBegun m via q

  -- with the entries as the first caller has them
  abbrev pub DeclaredAfter : List Symbol → Type 0
  DeclaredAfter f = OnServing p.stage (λ t. (via : Caller S) × OnlyBookLost p via
      × DeclaredAt m via q f t × (entries_of q t ≡ entries_of p t))

  -- after attempts each of which found the book taken or the operation delayed, it is admitted,
  -- with the foresight and the entries as the first caller has them
  abbrev pub AdmittedAfter : Op → Type 0
  AdmittedAfter op = OnServing p.stage (λ t. (via : Caller S) × OnlyWaited m op p via t
      × AdmittedAt m via q op t × (foresight_of q ≡ foresight_of p)
      × (entries_of q t ≡ entries_of p t))

  -- after tries that found one of the operation's turns taken, it is done on its shards, with the
  -- foresight and the book of the note as the first caller has them
  abbrev pub AppliedAfter : ℕ → ℕ → Value → Type 0
  AppliedAfter shards turns v = OnFlight p.stage (λ t op. (via : Caller S)
      × OnlyShardLost m shards p via × AppliedAt m via q turns v t op
      × (foresight_of q ≡ foresight_of p) × (book_of q ≡ book_of p))

  abbrev pub FinishedAfterFrom : List Symbol → Stage → Type 0
  FinishedAfterFrom next (Applied t op v) = (via : Caller S) × OnlyBookLost p via
      × FinishedAt m via q next t op v × (entries_of q t ≡ entries_of p t ++ record {
        op = op;
        reply = v;
      } ∷ [])
  FinishedAfterFrom next _ = ⊥

  -- after tries that found the book taken, the operation is entered behind the entries that the
  -- first caller has
  abbrev pub FinishedAfter : List Symbol → Type 0
  FinishedAfter next = FinishedAfterFrom next p.stage

  -- after tries that found the book taken, the ticket is ended, with the foresight and the entries
  -- as the first caller has them
  abbrev pub EndedAfter : Reply → Type 0
  EndedAfter r = OnServing p.stage (λ t. (via : Caller S) × OnlyBookLost p via × EndedAt m via q r t
      × (foresight_of q ≡ []) × (entries_of q t ≡ entries_of p t))
