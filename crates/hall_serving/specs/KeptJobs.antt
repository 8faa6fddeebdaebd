-- What contracts say of a caller that serves one ticket after another, and may keep the book.
use Rattle.std.specs.Prelude.{◌≡◌, ℕ, ◌<◌, Option, Some, None}
use Rattle.std.specs.Prelude.{List, [], ◌∷◌, ◌++◌, replicate, slice_get}
use Rattle.std.specs.List.{FoldsTo, filter_map}
use Rattle.session_values.specs.declared.reply.Reply.{Reply}
use Rattle.session_journal.specs.Journal.{begun, ended}
use Rattle.session_hall.specs.declared.holding.Holding.{Holding}
use Rattle.session_hall.specs.declared.stage.Stage.TheVariants.{Idle, Out}
use Rattle.session_hall.specs.Holdings.{begun_at, present_book}

-- The caller has begun this ticket, and no other one, and served it to its end, and is idle: the
-- book that it works on knows the ticket as ended with the reply, which stands in the list at the
-- ticket's place.
pub record HasServedKept {S : Type 0} (replies : List Reply) (p q : Holding S) (t : ℕ)
    (r : Reply) : Type 0 where
  pub begun_more : begun_at q ≡ begun_at p ++ t ∷ []
  pub idle : q.caller.stage ≡ Idle
  pub begun_is : t < begun (present_book q).journal
  pub ended_is : ended (present_book q).journal t ≡ Some r
  pub serial_is : slice_get replies t ≡ Some r

-- the caller found all tickets begun, began none, is out, and hasn't the book in hand
pub record HasFoundAll {S : Type 0} (p q : Holding S) : Type 0 where
  pub begun_still : begun_at q ≡ begun_at p
  pub out : q.caller.stage ≡ Out
  pub none : q.book ≡ None

-- what is answered, and how the holding is left
abbrev pub ServesNextKept : {S : Type 0} → List Reply → Holding S → Holding S → Option (ℕ × Reply)
    → Type 0
ServesNextKept replies p q None = HasFoundAll p q
ServesNextKept replies p q (Some x) = HasServedKept replies p q x.0 x.1

-- the ticket is the last that the holding's caller has begun
pub record IsLastBegun {S : Type 0} (h : Holding S) (t : ℕ) : Type 0 where
  pub before : List ℕ
  pub begun_is : begun_at h ≡ before ++ t ∷ []

-- the tickets of a list of steps, of which some are of none
abbrev pub tickets_of : List (Option ℕ) → List ℕ
tickets_of steps = filter_map (λ x. x) steps

-- The tickets that the caller has begun since are those of these steps, one after another: in each
-- the reply of its ticket was given on, or, without a ticket, it was waited.
pub record HasGiven {S A : Type 0} (given_on : A → Option ℕ → A → Type 0) (p q : Holding S)
    (x y : A) : Type 0 where
  pub steps : List (Option ℕ)
  pub begun_more : begun_at q ≡ begun_at p ++ tickets_of steps
  pub given : FoldsTo given_on x steps y

-- where the reply of a ticket is given on, a book was seen first
abbrev pub SeesAndGives : {A : Type 0} → (A → (ℕ → Option Reply) → A → Type 0)
    → (A → Option ℕ → A → Type 0) → A → Option ℕ → A → Type 0
SeesAndGives seen given_on x None y = given_on x None y
SeesAndGives seen given_on x (Some t) y = (via : _) × (known : ℕ → Option Reply)
    × seen x known via × given_on via (Some t) y

-- The replies of all tickets that the caller has begun since were given on, a book was seen before
-- each of them, and at the end once more, after which it went on with no ticket.
pub record HasSeenAndGiven {S A : Type 0} (seen : A → (ℕ → Option Reply) → A → Type 0)
    (given_on : A → Option ℕ → A → Type 0) (p q : Holding S) (x y : A) : Type 0 where
  pub last : A
  pub all : HasGiven (SeesAndGives seen given_on) p q x last
  pub known : ℕ → Option Reply
  pub via : A
  pub sees : seen last known via
  pub goes_on : given_on via None y

-- so many times it was waited, with no ticket
pub record HasWaited {A : Type 0} (given_on : A → Option ℕ → A → Type 0) (x y : A) : Type 0 where
  pub many : ℕ
  pub given : FoldsTo given_on x (replicate many None) y
