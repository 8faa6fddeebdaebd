-- What a call leaves of a holding and its ticket, whether the book is in hand or not.
use Rattle.std.specs.Prelude.{◌≡◌, ℕ, ◌<◌, List, [], Some, None}
use Rattle.session_values.specs.declared.op.Op.{Op}
use Rattle.session_values.specs.declared.reply.Reply.{Reply}
use Rattle.session_values.specs.declared.value.Value.{Value}
use Rattle.symbolic_ops.specs.declared.symbol.Symbol.{Symbol}
use Rattle.session_journal.specs.Journal.{begun, ended}
use Rattle.session_hall.specs.declared.holding.Holding.{Holding}
use Rattle.session_hall.specs.declared.stage.Stage.{Stage}
use Rattle.session_hall.specs.declared.stage.Stage.TheVariants.{Idle, Serving, InFlight, Applied}
use Rattle.session_hall.specs.HoldingCalls.{OfTicket}
use Rattle.session_hall.specs.Holdings.{begun_at, entries_at, foresight_at, present_book}
use Rattle.session_hall.specs.Stages.{OnFlight}

module _ {S : Type 0} (p q : Holding S) where
  -- of the ticket that is served nothing is new, and no ticket is begun
  pub record SameTicket : Type 0 where
    pub stage_still : q.caller.stage ≡ p.caller.stage
    pub foresight_still : foresight_at q ≡ foresight_at p
    pub begun_still : begun_at q ≡ begun_at p
    pub entries_still : OfTicket p.caller.stage (λ t. entries_at q t ≡ entries_at p t)

  -- the book isn't in hand, and the book that is worked on is as it was
  pub record GivesBack : Type 0 where
    pub none : q.book ≡ None
    pub book_still : present_book q ≡ present_book p
    pub stage_still : q.caller.stage ≡ p.caller.stage
    pub foresight_still : foresight_at q ≡ foresight_at p
    pub begun_still : begun_at q ≡ begun_at p

  -- the operation of the ticket is admitted
  pub record FliesAt (op : Op) (t : ℕ) : Type 0 where
    pub stage_is : q.caller.stage ≡ InFlight t op
    pub foresight_still : foresight_at q ≡ foresight_at p
    pub begun_still : begun_at q ≡ begun_at p
    pub entries_still : entries_at q t ≡ entries_at p t

  -- the operation of the ticket was done on its shards, with this reply
  pub record CalledAt (op : Op) (v : Value) (t : ℕ) : Type 0 where
    pub stage_is : q.caller.stage ≡ Applied t op v
    pub foresight_still : foresight_at q ≡ foresight_at p
    pub begun_still : begun_at q ≡ begun_at p
    pub entries_still : entries_at q t ≡ entries_at p t

  -- the operation in flight was
  abbrev pub CalledFlight : Value → Type 0
  CalledFlight v = OnFlight p.caller.stage (λ t op. CalledAt op v t)

  -- what was admitted, in hand or in flight, was done on its shards with this reply
  abbrev pub CalledFrom : Stage → Op → Value → Type 0
  CalledFrom (Serving t) op v = CalledAt op v t
  CalledFrom (InFlight t o) op v = CalledAt op v t
  CalledFrom _ op v = ⊥

  abbrev pub HasCalled : Op → Value → Type 0
  HasCalled op v = CalledFrom p.caller.stage op v

  -- the list is the foresight
  pub record NarrowedAt (f : List Symbol) (t : ℕ) : Type 0 where
    pub stage_is : q.caller.stage ≡ Serving t
    pub foresight_is : foresight_at q ≡ f
    pub begun_still : begun_at q ≡ begun_at p
    pub entries_still : entries_at q t ≡ entries_at p t

  -- the ticket has ended with this reply
  pub record ClosedAt (r : Reply) (t : ℕ) : Type 0 where
    pub stage_is : q.caller.stage ≡ Idle
    pub foresight_is : foresight_at q ≡ []
    pub begun_still : begun_at q ≡ begun_at p
    pub entries_still : entries_at q t ≡ entries_at p t
    pub is_begun : t < begun (present_book q).journal
    pub is_ended : ended (present_book q).journal t ≡ Some r
