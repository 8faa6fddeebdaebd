-- The rule of a lane: what it carries, and what each of its ends knows. Read `Carries` first.
use Rattle.std.specs.Prelude.{◌≡◌, ℕ, ◌+◌, ◌<◌, ◌==◌, List, [], ◌∷◌, ◌++◌, Some, Bool, true, false, cond, length, slice_get}
use Rattle.std.specs.List.{AllByRecursion}
use mathlib.Core.Option.{some}
use lib.ListN.{get_elem?}
use Rattle.session_values.specs.declared.reply.Reply.{Reply}
use Rattle.hall_writing.specs.declared.rule.Spoken.{Spoken}
use Rattle.hall_writing.specs.declared.rule.EndState.{EndState}

-- how many messages a lane has room for
abbrev pub lane_room : ℕ
lane_room = 1024

-- the ticket has that reply in the list
abbrev pub IsSpoken : List Reply → Spoken → Type 0
IsSpoken replies m = slice_get replies m.ticket ≡ Some m.reply

-- what an end knows: what it put in and what it took out, in order, for how many of the callers it
-- stands, how many callers there are, and the list of replies
abbrev pub end_state : List Spoken → List Spoken → ℕ → ℕ → List Reply → EndState
end_state put taken share callers known = record {
  put = put;
  taken = taken;
  share = share;
  callers = callers;
  known = known;
}

-- what a list amounts to, where each element counts so much
abbrev pub total : {A : Type 0} → (A → ℕ) → List A → ℕ
total f [] = 0
total f (x ∷ xs) = f x + total f xs

-- how often a ticket is spoken of in these messages
abbrev pub times : ℕ → List Spoken → ℕ
times t ms = total (λ m. cond (m.ticket == t) 1 0) ms

-- it stands for all callers: no other end can put in or take out
abbrev pub IsAlone : EndState → Type 0
IsAlone v = (0 < v.share) × (v.share ≡ v.callers)

-- Every message in the lane is spoken for one list of replies, which each end knows that stands for
-- a caller. However much each message counts, what all ends took and what is in the lane amounts to
-- what all ends put in: no message comes out more often than it went in, and none is lost. Each
-- caller has one end that stands for it, so no end can be made beside those; who stands for none
-- does nothing. What an end took that is alone, and what is in the lane, is what it put in, in
-- order.
pub record Carries (items : List Spoken) (ends : List EndState) : Type 0 where
  pub replies : List Reply
  pub callers : ℕ
  pub spoken : AllByRecursion (IsSpoken replies) items
  pub balance : (f : Spoken → ℕ) → total (λ v. total f v.taken) ends + total f items
      ≡ total (λ v. total f v.put) ends
  pub shares : total (λ v. v.share) ends ≡ callers
  pub known : (i : ℕ) (v : EndState) → get_elem? ends i ≡ some v → 0 < v.share
      → (v.known ≡ replies) × (v.callers ≡ callers)
  pub idle : (i : ℕ) (v : EndState) → get_elem? ends i ≡ some v → v.share ≡ 0
      → (v.put ≡ []) × (v.taken ≡ [])
  pub order : (i : ℕ) (v : EndState) → get_elem? ends i ≡ some v → IsAlone v
      → v.taken ++ items ≡ v.put

-- at one moment these messages were in the lane under its rule, and one of its ends knew this
pub record IsMoment (v : EndState) (items : List Spoken) : Type 0 where
  pub ends : List EndState
  pub place : ℕ
  pub own : get_elem? ends place ≡ some v
  pub rule : Carries items ends

-- it has put the message in, behind those in the lane, where there was room
pub record HasPut (v : EndState) (m : Spoken) (w : EndState) : Type 0 where
  pub is : w ≡ end_state (v.put ++ m ∷ []) v.taken v.share v.callers v.known
  pub items : List Spoken
  pub room : length items < lane_room
  pub before : IsMoment v items
  pub after : IsMoment w (items ++ m ∷ [])

-- it has taken the message out, the first in the lane, and it is spoken for the list that it knows
pub record HasTaken (v : EndState) (m : Spoken) (w : EndState) : Type 0 where
  pub is : w ≡ end_state v.put (v.taken ++ m ∷ []) v.share v.callers v.known
  pub spoken : IsSpoken v.known m
  pub rest : List Spoken
  pub before : IsMoment v (m ∷ rest)
  pub after : IsMoment w rest

-- it knows what it knew, and at one moment of the call so many messages were in the lane
pub record Found (n : ℕ) (v w : EndState) : Type 0 where
  pub same : w ≡ v
  pub items : List Spoken
  pub many : length items ≡ n
  pub moment : IsMoment v items

-- the answer to an offer: the message is in the lane, or the lane was full
abbrev pub Offered : EndState → Spoken → EndState → Bool → Type 0
Offered v m w true = HasPut v m w
Offered v m w false = Found lane_room v w
