-- What is done with the reply of one ticket, or, without a ticket, meanwhile, and when the book in
-- hand is seen.
use Rattle.std.specs.Prelude.{◌≡◌, ◌<◌, ◌≤◌, ℕ, length}
use Rattle.std.specs.Prelude.{List, [], Option, Some, None, Bool, true, false}
use Rattle.session_values.specs.Limits.{max_requests}
use Rattle.session_values.specs.declared.reply.Reply.{Reply}
use Rattle.hall_writing.specs.Ends.{IsEndOf, state_of}
use Rattle.hall_writing.specs.Lanes.{IsMoment, Offered, times}
use Rattle.reply_sheet.specs.Printable.{ArePrintableReplies}
use Rattle.reply_sheet.specs.Ready.{ready}
use Rattle.hall_writing.specs.Sheets.{GoesOn, IsKept, Keeps, KeepsEnded, progress}
use Rattle.hall_writing.specs.declared.offering.Offering.{Offering}
use Rattle.hall_writing.specs.declared.writing.Writing.{Writing}

-- the reply of the ticket was offered to the lane, by the same end
pub record HasOfferedOne (o : Offering) (t : ℕ) (p : Offering) : Type 0 where
  pub end_still : p.end.ghost_name ≡ o.end.ghost_name
  pub reply : Reply
  pub room : Bool
  pub offered : Offered (state_of o.end.now) (record { ticket = t; reply = reply })
      (state_of p.end.now) room

-- and meanwhile nothing is done
abbrev pub HasOfferedAt : Offering → Option ℕ → Offering → Type 0
HasOfferedAt o (Some t) p = HasOfferedOne o t p
HasOfferedAt o None p = p ≡ o

-- the end is one of the lane's, for these replies, the sheet keeps only of them, and their lines
-- can be written
pub record MayWrite {O : Type 0} (replies : List Reply) (w : Writing O) : Type 0 where
  pub end : IsEndOf w.lane.now replies w.end.now
  pub keeps : Keeps replies w.sheet.now.pending
  pub few : length replies ≤ max_requests
  pub printable : ArePrintableReplies w.names.now replies

-- The line of the ticket, where there is one, is written or waits for an earlier one, and so is
-- that of each message that was taken out of the lane, which was found empty unless nobody else is
-- there; what was kept stays so. No line that can be written is left unless writing has failed;
-- nothing is written after that.
pub record HasWrittenOne {O : Type 0} (held : O → Option (List ℕ)) (faults : O → ℕ) (w : Writing O)
    (t : Option ℕ) (x : Writing O) : Type 0 where
  pub end_still : x.end.ghost_name ≡ w.end.ghost_name
  pub sheet_still : x.sheet.ghost_name ≡ w.sheet.ghost_name
  pub out_still : x.out.ghost_name ≡ w.out.ghost_name
  pub names_still : x.names.now ≡ w.names.now
  pub known_still : (state_of x.end.now).known ≡ (state_of w.end.now).known
  pub alone_still : x.sheet.now.alone ≡ w.sheet.now.alone
  pub own : (u : ℕ) → t ≡ Some u → IsKept x.sheet.now.pending u
  pub taken : (u : ℕ) → times u (state_of w.end.now).taken < times u (state_of x.end.now).taken
      → IsKept x.sheet.now.pending u
  pub empty : w.sheet.now.alone ≡ false → IsMoment (state_of x.end.now) []
  pub still : (u : ℕ) → IsKept w.sheet.now.pending u → IsKept x.sheet.now.pending u
  pub stops : x.sheet.now.failed ≡ false → ready x.sheet.now.pending ≡ []
  pub failed : w.sheet.now.failed ≡ true → x.sheet.now.failed ≡ true
  pub quiet : w.sheet.now.failed ≡ true → x.out.now ≡ w.out.now
  pub on : GoesOn (state_of w.end.now).known w.names.now
      (progress (held w.out.now) (faults w.out.now) w.sheet.now)
      (progress (held x.out.now) (faults x.out.now) x.sheet.now)

-- Nothing was written, or taken out of the lane, and what was kept stays so. The replies of the
-- next ticket and of those behind it are kept, up to one that hasn't ended in the book, unless there
-- is one caller or writing has failed.
pub record HasSeen {O : Type 0} (w : Writing O) (known : ℕ → Option Reply)
    (x : Writing O) : Type 0 where
  pub end_still : x.end.ghost_name ≡ w.end.ghost_name
  pub end_now : x.end.now ≡ w.end.now
  pub sheet_still : x.sheet.ghost_name ≡ w.sheet.ghost_name
  pub out_still : x.out.ghost_name ≡ w.out.ghost_name
  pub out_now : x.out.now ≡ w.out.now
  pub names_still : x.names.now ≡ w.names.now
  pub next_still : x.sheet.now.pending.next ≡ w.sheet.now.pending.next
  pub failed_still : x.sheet.now.failed ≡ w.sheet.now.failed
  pub alone_still : x.sheet.now.alone ≡ w.sheet.now.alone
  pub still : (u : ℕ) → IsKept w.sheet.now.pending u → IsKept x.sheet.now.pending u
  pub kept : w.sheet.now.alone ≡ false → w.sheet.now.failed ≡ false
      → KeepsEnded (length (state_of w.end.now).known) w.sheet.now.pending.next known
      x.sheet.now.pending
