-- Replies that wait for their turn, as contracts see them.
use Rattle.std.specs.Prelude.{◌≡◌, ℕ, suc, ◌-◌, List, ◌∷◌, ◌++◌, Option, Some, None, drop, length, nat_lt, replicate, slice_index_or, slice_set, if◌then◌else◌}
use Rattle.session_values.specs.declared.reply.Reply.{Reply}

-- The next ticket to be taken, and from it on the reply of each ticket, none where none was kept yet.
-- The tickets before it were taken, each once.
pub record PendingView : Type 0 where
  pub next : ℕ
  pub waiting : List (Option Reply)

-- what waits, by the place behind the next ticket, with a reply kept, unless one was kept before
abbrev pub with_reply : List (Option Reply) → ℕ → Reply → List (Option Reply)
with_reply waiting i r = elim (slice_index_or waiting i None) [
  | None ↦ slice_set waiting i (Some r)
  | Some _ ↦ waiting
]

-- with a ticket's reply kept; nothing is kept of a ticket that was taken
abbrev pub with_kept : PendingView → ℕ → Reply → PendingView
with_kept p t r = record {
  next = p.next;
  waiting = if nat_lt t p.next then p.waiting else with_reply p.waiting (t - p.next) r;
}

-- the next ticket was taken with the reply that was kept for it, and the one behind it is next
pub record HasTakenNext (p : PendingView) (x : ℕ × Reply) (q : PendingView) : Type 0 where
  pub ticket : x.0 ≡ p.next
  pub next : q.next ≡ suc p.next
  pub waiting : p.waiting ≡ Some x.1 ∷ q.waiting

-- no reply is kept for the next ticket, and nothing changes
pub record IsWaiting (p q : PendingView) : Type 0 where
  pub missing : slice_index_or p.waiting 0 None ≡ None
  pub same : q ≡ p

-- What waits of a list of replies, of which the first ones were taken, in room for so many: the
-- list goes as far as any reply was kept. Only this crate's own functions cite this.
abbrev pub waiting_of : List (Option Reply) → ℕ → ℕ → List (Option Reply)
waiting_of kept taken room = drop taken (kept ++ replicate (room - length kept) None)
