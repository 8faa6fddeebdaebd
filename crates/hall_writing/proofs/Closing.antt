-- The replies of a closed hall are the serial ones, and all their lines are written.
use Rattle.std.proofs.Common.{◌≡◌, ◌≤◌, ℕ, List, Option, Bool, false, length, sym, ◌∙◌, ap, subst}
use Rattle.session_values.specs.declared.reply.Reply.{Reply}
use Rattle.session_journal.specs.Script.{Meaning}
use Rattle.session_hall.specs.declared.hall.Hall.{Hall}
use Rattle.session_hall.specs.declared.caller.Caller.{Caller}
use Rattle.session_hall.specs.Closings.{ClosedView, IsDone}
use Rattle.session_hall.specs.Names.{script_of}
use Rattle.hall_writing.specs.declared.lane.Lane.{Lane}
use Rattle.hall_writing.specs.declared.job.Job.{Job}
use Rattle.hall_writing.specs.declared.sheet.Sheet.{Sheet}
use Rattle.hall_writing.specs.Sheets.{Ends, GoesOn, IsWritten, Progress, Written, progress}
use Rattle.hall_writing.specs.Jobs.{replies_of}
use Rattle.hall_writing.specs.Sessions.{IsOpened}
use Rattle.hall_writing.proofs.Sessions.{written_start}

module _ {S : Type 0} (meaning : S → Meaning) (h : Hall S) (plan : S) (same : script_of h ≡ plan) (d : ClosedView) (done : IsDone (meaning (script_of h)) d) (slice : List Reply) (given : slice ≡ d.replies) where
  -- the replies that are written are those by which the callers served
  slice_is : slice ≡ replies_of (meaning plan)
  slice_is = given ∙ done.replies ∙ ap (λ (s : S). replies_of (meaning s)) same

  pub few_left : (n : ℕ) → length (replies_of (meaning plan)) ≤ n → length slice ≤ n
  few_left n few = subst (λ (rs : List Reply). length rs ≤ n) (sym slice_is) few

  module _ (lane : Lane) (js : List (Job S)) (left : List (Caller S)) (room : ℕ) (sheet : Sheet) (is : IsOpened meaning h lane js left room sheet) (names : List (List ℕ)) (held : Option (List ℕ)) (faults : ℕ) (q : Progress) (on : GoesOn (replies_of (meaning plan)) names (progress held faults sheet) q) where
    so_far : Written slice names held faults q
    so_far = subst (λ (rs : List Reply). Written rs names held faults q) (sym slice_is) (on.on held faults (written_start meaning h lane (replies_of (meaning plan)) names held faults js left room sheet is))

    pub within_left : q.failed ≡ false → q.next ≤ length slice
    within_left sound = so_far.within sound

    pub written : (now : Option (List ℕ)) (now_faults : ℕ) (whole : Bool) → Ends slice names q now now_faults whole → IsWritten d.replies names held now faults now_faults whole
    written now now_faults whole ends = subst (λ (rs : List Reply). IsWritten rs names held now faults now_faults whole) given (ends.on held faults so_far)
