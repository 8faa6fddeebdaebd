-- What is known at a moment at which no caller holds the book.
use Rattle.std.specs.Prelude.{◌≡◌, List, Option, Some}
use mathlib.Core.Option.{some}
use mathlib.Core.Option as maybe
use lib.ListN.{get_elem?}
use Rattle.session_journal.specs.Script.{Meaning, IsScript}
use Rattle.admission_book.specs.Book.{Book}
use Rattle.hall_rule.specs.declared.held.Held.{Held}
use Rattle.hall_rule.specs.Contents.{Content, Register}
use Rattle.hall_rule.specs.Counted.{ReplaysByTicket}
use Rattle.hall_rule.specs.Shards.{content_of}

-- The slot of turn 0 holds the book with its script, and its finished operations, regrouped by
-- ticket, replay.
pub record FreeBook {S : Type 0} (meaning : S → Meaning) (contents notes : List (Content S))
    (slots : List (maybe.Option (Option (Held S)))) : Type 0 where
  pub script : S
  pub book : Book
  pub held : Held S
  pub in_slot : get_elem? slots 0 ≡ some (some (Some held))
  pub content_is : content_of held ≡ Register script book
  pub replays : IsScript (meaning script) → ReplaysByTicket (meaning script) script contents notes
      book
