-- What contracts say of the jobs of a session whose replies are written while it is served.
use Rattle.std.specs.Prelude.{◌≡◌, ◌<◌, ◌≤◌, ℕ, List, [], ◌∷◌, ◌++◌, None, Bool, map}
use Rattle.std.specs.Prelude.{length, slice_index_or}
use Rattle.std.specs.List.{AllByRecursion}
use Rattle.session_values.specs.Limits.{max_requests}
use Rattle.session_values.specs.declared.reply.Reply.{Reply}
use Rattle.session_values.specs.Serial.{serial_replies}
use Rattle.session_journal.specs.Script.{Meaning, session_of}
use Rattle.session_hall.specs.declared.hall.Hall.{Hall}
use Rattle.session_hall.specs.declared.caller.Caller.{Caller}
use Rattle.session_hall.specs.declared.stage.Stage.TheVariants.{Out}
use Rattle.session_hall.specs.Callers.{IsCallerOf}
use Rattle.session_hall.specs.Stages.{IsBetween}
use Rattle.hall_writing.specs.declared.lane.Lane.{Lane}
use Rattle.hall_writing.specs.declared.lane.End.{End}
use Rattle.hall_writing.specs.declared.rule.EndState.{EndState}
use Rattle.hall_writing.specs.Ends.{IsEndOf}
use Rattle.hall_writing.specs.Lanes.{Offered}
use Rattle.reply_sheet.specs.Pending.{PendingView}
use Rattle.reply_sheet.specs.Printable.{ArePrintableReplies}
use Rattle.session_hall.specs.Begun.{begun_by}
use Rattle.hall_writing.specs.Sheets.{IsKept, Keeps}
use Rattle.hall_writing.specs.declared.first.First.{First}
use Rattle.hall_writing.specs.declared.job.Job.{Job}

-- the replies of the serial run
abbrev pub replies_of : Meaning → List Reply
replies_of m = serial_replies (session_of m) m.requests

-- the callers of a list of jobs
abbrev pub callers_of : {S : Type 0} → List (Job S) → List (Caller S)
callers_of js = map (λ j. j.holding.caller) js

-- and their ends of the lane
abbrev pub ends_of : {S : Type 0} → List (Job S) → List End
ends_of js = map (λ j. j.end) js

-- the book isn't in hand
abbrev pub IsUnkept : {S : Type 0} → Job S → Type 0
IsUnkept j = j.holding.book ≡ None

-- its caller is one of the hall's, serves nothing, and hasn't the book in hand; its end is one of
-- the lane's, for these replies
pub record IsJobOf {S : Type 0} (meaning : S → Meaning) (h : Hall S) (lane : Lane)
    (replies : List Reply) (j : Job S) : Type 0 where
  pub caller : IsCallerOf meaning h j.holding.caller
  pub between : IsBetween j.holding.caller.stage
  pub unkept : IsUnkept j
  pub end : IsEndOf lane replies j.end

-- the first job is one of the hall's, its sheet keeps only of the replies of the plan's serial run,
-- and their lines can be written
pub record IsFirstOf {S : Type 0} (meaning : S → Meaning) (h : Hall S) (plan : S) (lane : Lane)
    (names : List (List ℕ)) (f : First S) : Type 0 where
  pub job : IsJobOf meaning h lane (replies_of (meaning plan)) f.job
  pub keeps : Keeps (replies_of (meaning plan)) f.sheet.pending
  pub few : length (replies_of (meaning plan)) ≤ max_requests
  pub printable : ArePrintableReplies names (replies_of (meaning plan))

-- its caller is the same one of the hall, is out, and hasn't the book in hand
pub record HasServed {S : Type 0} (meaning : S → Meaning) (h : Hall S) (p q : Job S) : Type 0 where
  pub caller : IsCallerOf meaning h q.holding.caller
  pub number_still : q.holding.caller.number ≡ p.holding.caller.number
  pub out : q.holding.caller.stage ≡ Out
  pub unkept : IsUnkept q

-- and so has each of the jobs
abbrev pub HaveServed : {S : Type 0} → (S → Meaning) → Hall S → List (Job S) → List (Job S)
    → Type 0
HaveServed meaning h ps qs = (i : ℕ) (d : Job _) → i < length ps
    → HasServed meaning h (slice_index_or ps i d) (slice_index_or qs i d)

-- The replies of these tickets were offered to the lane, one after another, by the end that knew
-- this: each was put in, or the lane was full. Nothing else was put in, and nothing was taken out.
abbrev pub Offers : List ℕ → EndState → EndState → Type 0
Offers [] v w = w ≡ v
Offers (t ∷ ts) v w = (u : EndState) × (r : Reply) × (room : Bool)
    × Offered v (record { ticket = t; reply = r }) u room × Offers ts u w

-- the tickets that the caller has begun since are these, and each one's reply was offered
pub record HasOffered {S : Type 0} (p q : Caller S) (v w : EndState) : Type 0 where
  pub served : List ℕ
  pub begun_more : begun_by q ≡ begun_by p ++ served
  pub offers : Offers served v w

-- the tickets that the caller has begun since are these, and each one's line is written or waits
-- for an earlier one
pub record HasKept {S : Type 0} (p q : Caller S) (sheet : PendingView) : Type 0 where
  pub served : List ℕ
  pub begun_more : begun_by q ≡ begun_by p ++ served
  pub kept : AllByRecursion (IsKept sheet) served
