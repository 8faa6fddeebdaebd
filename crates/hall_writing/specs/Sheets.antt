-- Replies that wait to be written, and what was written of them.
use Rattle.std.specs.Prelude.{◌≡◌, ℕ, ◌+◌, ◌<◌, ◌≤◌, ◌⊎◌, Bool, true, false}
use Rattle.std.specs.Prelude.{List, Option, Some, IsSome, length, take, slice_get}
use Rattle.session_values.specs.declared.reply.Reply.{Reply}
use Rattle.session_values.specs.ReplyText.{reply_text}
use Rattle.byte_ends.specs.Ends.{Counted, IsRaised, Appended, AppendedPrefix}
use Rattle.reply_sheet.specs.Pending.{PendingView}
use Rattle.hall_writing.specs.declared.sheet.Sheet.{Sheet}

-- the replies from the next ticket on wait for their turn, and each that is kept stands in the list
-- at its ticket's place
pub record Keeps (replies : List Reply) (p : PendingView) : Type 0 where
  pub room : p.next + length p.waiting ≡ length replies
  pub spoken : (i : ℕ) (r : Reply) → slice_get p.waiting i ≡ Some (Some r)
      → slice_get replies (p.next + i) ≡ Some r

-- the ticket was taken to be written, or a reply is kept for it
abbrev pub IsKept : PendingView → ℕ → Type 0
IsKept p t = (t < p.next)
    ⊎ ((i : ℕ) × (r : Reply) × (t ≡ p.next + i) × (slice_get p.waiting i ≡ Some (Some r)))

-- of so many tickets, the reply of each is kept from the first one on, up to one that hasn't ended
abbrev pub KeepsEnded : ℕ → ℕ → (ℕ → Option Reply) → PendingView → Type 0
KeepsEnded many first known p = (t : ℕ) → t < many
    → ((u : ℕ) → first ≤ u → u ≤ t → IsSome (known u)) → IsKept p t

-- what the sink holds, where it tells, its faults, the next ticket, and whether writing has failed
pub record Progress : Type 0 where
  pub held : Option (List ℕ)
  pub faults : ℕ
  pub next : ℕ
  pub failed : Bool

-- how far a sheet is
abbrev pub progress : Option (List ℕ) → ℕ → Sheet → Progress
progress held faults sheet = record {
  held = held;
  faults = faults;
  next = sheet.pending.next;
  failed = sheet.failed;
}

-- from what was held and the faults at first: the lines of the tickets before the next one were
-- written, or a fault broke writing off
pub record Written (replies : List Reply) (names : List (List ℕ)) (first : Option (List ℕ))
    (first_faults : ℕ) (p : Progress) : Type 0 where
  pub well : p.failed ≡ false → p.faults ≡ first_faults
  pub within : p.failed ≡ false → p.next ≤ length replies
  pub so_far : p.failed ≡ false → Appended first p.held (reply_text names 0 (take p.next replies))
  pub rose : p.failed ≡ true → IsRaised first_faults p.faults
  pub front : p.failed ≡ true → AppendedPrefix first p.held (reply_text names 0 replies)

-- whatever was written from the first on, it goes on so
pub record GoesOn (replies : List Reply) (names : List (List ℕ)) (p q : Progress) : Type 0 where
  pub on : (first : Option (List ℕ)) (first_faults : ℕ) → Written replies names first first_faults p
      → Written replies names first first_faults q

-- all lines were written, or a fault broke writing off
pub record IsWritten (replies : List Reply) (names : List (List ℕ)) (first now : Option (List ℕ))
    (first_faults now_faults : ℕ) (whole : Bool) : Type 0 where
  pub all : whole ≡ true → Appended first now (reply_text names 0 replies)
  pub faults : Counted whole first_faults now_faults
  pub front : whole ≡ false → AppendedPrefix first now (reply_text names 0 replies)

-- however far writing was, it ends so
pub record Ends (replies : List Reply) (names : List (List ℕ)) (p : Progress)
    (now : Option (List ℕ)) (now_faults : ℕ) (whole : Bool) : Type 0 where
  pub on : (first : Option (List ℕ)) (first_faults : ℕ) → Written replies names first first_faults p
      → IsWritten replies names first now first_faults now_faults whole
