-- What contracts say of the jobs of a session.
use Rattle.std.specs.Prelude.{◌≡◌, ℕ, ◌<◌, List, [], ◌∷◌, ◌++◌, Option, Some, None, map, slice_get}
use Rattle.session_values.specs.declared.reply.Reply.{Reply}
use Rattle.session_journal.specs.Journal.{begun, ended}
use Rattle.session_journal.specs.Script.{Meaning}
use Rattle.session_hall.specs.declared.hall.Hall.{Hall}
use Rattle.session_hall.specs.declared.caller.Caller.{Caller}
use Rattle.session_hall.specs.declared.stage.Stage.TheVariants.{Idle, Out}
use Rattle.session_hall.specs.Begun.{begun_by}
use Rattle.session_hall.specs.Callers.{IsCallerOf, book_of}
use Rattle.session_hall.specs.Stages.{IsBetween}
use Rattle.hall_serving.specs.declared.job.Job.{Job}

abbrev pub JobOf : Type 0 → Type 0
JobOf S = Job S

-- the callers of a list of jobs
abbrev pub callers_of : {S : Type 0} → List (Job S) → List (Caller S)
callers_of js = map (λ j. j.holding.caller) js

-- the book isn't in hand
abbrev pub IsUnkept : {S : Type 0} → Job S → Type 0
IsUnkept j = j.holding.book ≡ None

-- its caller is one of the hall's, serves nothing, and hasn't the book in hand
pub record IsJobOf {S : Type 0} (meaning : S → Meaning) (h : Hall S) (j : Job S) : Type 0 where
  pub caller : IsCallerOf meaning h j.holding.caller
  pub between : IsBetween j.holding.caller.stage
  pub unkept : IsUnkept j

-- its caller is the same one of the hall, is out, and hasn't the book in hand
pub record HasServed {S : Type 0} (meaning : S → Meaning) (h : Hall S) (p q : Job S) : Type 0 where
  pub caller : IsCallerOf meaning h q.holding.caller
  pub number_still : q.holding.caller.number ≡ p.holding.caller.number
  pub out : q.holding.caller.stage ≡ Out
  pub unkept : IsUnkept q

-- The caller has begun this ticket, and no other one, and served it to its end, and is idle: its
-- note knows the ticket as ended with the reply, which stands in the list at the ticket's place.
pub record HasServedNext {S : Type 0} (replies : List Reply) (p c : Caller S) (t : ℕ)
    (r : Reply) : Type 0 where
  pub begun_more : begun_by c ≡ begun_by p ++ t ∷ []
  pub idle : c.stage ≡ Idle
  pub begun_is : t < begun (book_of c).journal
  pub ended_is : ended (book_of c).journal t ≡ Some r
  pub serial_is : slice_get replies t ≡ Some r

-- the caller has begun no ticket
pub record HasBegunNone {S : Type 0} (p c : Caller S) : Type 0 where
  pub begun_still : begun_by c ≡ begun_by p

-- the caller found all tickets begun, began none, and is out
pub record HasFoundNone {S : Type 0} (p c : Caller S) : Type 0 where
  pub begun_still : begun_by c ≡ begun_by p
  pub out : c.stage ≡ Out

-- what is answered, and how the caller is left
abbrev pub ServesNext : {S : Type 0} → List Reply → Caller S → Caller S → Option (ℕ × Reply) → Type 0
ServesNext replies p c None = HasFoundNone p c
ServesNext replies p c (Some x) = HasServedNext replies p c x.0 x.1
