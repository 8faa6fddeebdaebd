-- What contracts see of a desk over a caller of a hall.
use Rattle.std.specs.Prelude.{◌≡◌, ℕ, ◌<◌, ◌∷◌, ◌++◌, length, Option, Some, None, Bool, true, false}
use Rattle.session_values.specs.declared.reply.Reply.{Reply}
use Rattle.session_values.specs.Dialogue.{Entry}
use Rattle.session_journal.specs.Desks.{DeskView}
use Rattle.session_journal.specs.Journal.{begun, ended}
use Rattle.session_journal.specs.Script.{Meaning}
use Rattle.session_hall.specs.declared.hall.Hall.{Hall}
use Rattle.session_hall.specs.declared.caller.Caller.{Caller}
use Rattle.session_hall.specs.declared.stage.Stage.{Stage}
use Rattle.session_hall.specs.declared.stage.Stage.TheVariants.{Idle, Serving, Applied}
use Rattle.session_hall.specs.Begun.{begun_by}
use Rattle.session_hall.specs.Callers.{IsCallerOf, book_of, entries_of, foresight_of}
use Rattle.session_hall.specs.Names.{hall_name, script_of}

-- the caller serves a ticket that has no operation in flight
abbrev pub IsServing : Stage → Type 0
IsServing (Serving t) = Unit {0}
IsServing _ = ⊥

-- the ticket that the caller serves with no operation in flight, and 0 at every other stage
abbrev pub ticket_of : Stage → ℕ
ticket_of (Serving t) = t
ticket_of _ = 0

-- the operation that was done on its shards and isn't entered yet, with its reply
abbrev pub waiting_of : Stage → Option Entry
waiting_of (Applied t op v) = Some (record { op = op; reply = v })
waiting_of _ = None

-- whether the caller is idle: between two tickets, and not out
abbrev pub has_ended : Stage → Bool
has_ended Idle = true
has_ended _ = false

-- What a desk over the caller is at, while the caller is behind the reference of that name. Among
-- what names its home are the tickets that the caller has begun, so no call of a desk begins one.
abbrev pub desk_at : {S : Type 0} → Hall S → Caller S → ℕ → ℕ → DeskView
desk_at h c t name = record {
  ticket = t;
  entries = entries_of c t;
  present = foresight_of c;
  waiting = waiting_of c.stage;
  ended = has_ended c.stage;
  home = name ∷ c.number ∷ length (begun_by c) ∷ begun_by c ++ hall_name h;
  sure = true;
}

-- the script of its hall, what the desk is at, and the Reply with which its ticket was ended
pub record HallView (S : Type 0) : Type 0 where
  pub script : S
  pub desk : DeskView
  pub reply : Option Reply

-- the caller serves the ticket, or its operation waits, and no reply is known; or it is idle, and
-- one is
abbrev pub AtTicket : Stage → ℕ → Option Reply → Type 0
AtTicket Idle t r = (x : Reply) × (r ≡ Some x)
AtTicket (Serving u) t r = (u ≡ t) × (r ≡ None)
AtTicket (Applied u op v) t r = (u ≡ t) × (r ≡ None)
AtTicket _ t r = ⊥

-- the Reply is the one with which the ticket has ended in the caller's note
abbrev pub KnowsReply : {S : Type 0} → Caller S → ℕ → Option Reply → Type 0
KnowsReply c t None = has_ended c.stage ≡ false
KnowsReply c t (Some r) = (t < begun (book_of c).journal) × (ended (book_of c).journal t ≡ Some r)

-- its caller is one of the hall's, and serves the ticket, or has ended it with the Reply
pub record DeskStands {S : Type 0} (meaning : S → Meaning) (h : Hall S) (c : Caller S) (t : ℕ)
    (r : Option Reply) : Type 0 where
  pub caller : IsCallerOf meaning h c
  pub at : AtTicket c.stage t r
  pub known : KnowsReply c t r

-- the caller of a desk, as it leaves it behind the reference of this name: some hall with the
-- script that the desk shows is the one that the desk stood over, and the caller is one of that
-- hall's, at the stage at which the desk shows it
pub record IsCallerOfDesk {S : Type 0} (meaning : S → Meaning) (v : HallView S) (c : Caller S)
    (name : ℕ) : Type 0 where
  pub hall : Hall S
  pub script_is : script_of hall ≡ v.script
  pub desk_is : desk_at hall c v.desk.ticket name ≡ v.desk
  pub stands : DeskStands meaning hall c v.desk.ticket v.reply
