-- What contracts see of a desk over a caller that may keep the book.
use Rattle.std.specs.Prelude.{◌≡◌, ℕ, ◌<◌, ◌∷◌, ◌++◌, length, Option, Some, None, true, false}
use Rattle.session_values.specs.declared.reply.Reply.{Reply}
use Rattle.session_journal.specs.Desks.{DeskView}
use Rattle.session_journal.specs.Journal.{begun, ended}
use Rattle.session_journal.specs.Script.{Meaning}
use Rattle.session_hall.specs.declared.hall.Hall.{Hall}
use Rattle.session_hall.specs.declared.holding.Holding.{Holding}
use Rattle.session_hall.specs.Holdings.{IsHoldingOf, begun_at, entries_at, foresight_at, present_book}
use Rattle.session_hall.specs.Names.{hall_name, script_of}
use Rattle.hall_serving.specs.Desks.{AtTicket, HallView, has_ended, waiting_of}

-- What a desk over the holding is at, while the holding is behind the reference of that name.
-- Among what names its home are the tickets that the holding's caller has begun, so no call of a
-- desk begins one.
abbrev pub kept_desk_at : {S : Type 0} → Hall S → Holding S → ℕ → ℕ → DeskView
kept_desk_at h c t name = record {
  ticket = t;
  entries = entries_at c t;
  present = foresight_at c;
  waiting = waiting_of c.caller.stage;
  ended = has_ended c.caller.stage;
  home = name ∷ c.caller.number ∷ length (begun_at c) ∷ begun_at c ++ hall_name h;
  sure = true;
}

-- the Reply is the one with which the ticket has ended in the book that the holding works on
abbrev pub KnowsAt : {S : Type 0} → Holding S → ℕ → Option Reply → Type 0
KnowsAt c t None = has_ended c.caller.stage ≡ false
KnowsAt c t (Some r) = (t < begun (present_book c).journal)
    × (ended (present_book c).journal t ≡ Some r)

-- the holding is one of the hall's, and its caller serves the ticket, or has ended it with the
-- Reply
pub record KeptStands {S : Type 0} (meaning : S → Meaning) (h : Hall S) (c : Holding S) (t : ℕ)
    (r : Option Reply) : Type 0 where
  pub holding : IsHoldingOf meaning h c
  pub at : AtTicket c.caller.stage t r
  pub known : KnowsAt c t r

-- the holding of a desk, as it leaves it behind the reference of this name: some hall with the
-- script that the desk shows is the one that the desk stood over, and the holding is one of that
-- hall's, at the stage at which the desk shows it
pub record IsHoldingOfDesk {S : Type 0} (meaning : S → Meaning) (v : HallView S) (c : Holding S)
    (name : ℕ) : Type 0 where
  pub hall : Hall S
  pub script_is : script_of hall ≡ v.script
  pub desk_is : kept_desk_at hall c v.desk.ticket name ≡ v.desk
  pub stands : KeptStands meaning hall c v.desk.ticket v.reply
