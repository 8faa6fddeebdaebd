-- A caller with the book in hand, as this crate's own functions see it. Only these cite it.
use Rattle.std.specs.Prelude.{ℕ, List, Option, Some, None}
use Rattle.symbolic_ops.specs.declared.symbol.Symbol.{Symbol}
use Rattle.session_journal.specs.Script.{Meaning}
use Rattle.admission_book.specs.Book.{Book, record_of}
use Rattle.admission_book.specs.Methods.{BookView}
use Rattle.turn_board.specs.Boards.{givings}
use Rattle.session_hall.specs.declared.caller.Caller.{Caller}
use Rattle.session_hall.specs.declared.hall.Hall.{Hall}
use Rattle.session_hall.specs.declared.holding.Holding.{Holding}
use Rattle.session_hall.specs.Callers.{IsCallerOf}
use Rattle.session_hall.specs.Calls.{IsBusy}
use Rattle.session_hall.specs.HoldingCalls.{TookBookAs}
use Rattle.session_hall.specs.Holdings.{IsKeeperIn}
use Rattle.session_hall.specs.Names.{hall_name, id_of, script_of}
use Rattle.session_hall.specs.Stages.{OnServing, foresight_in}

module _ {S : Type 0} where
  -- it has this book of the hall in hand
  abbrev pub IsKeeperOf : (S → Meaning) → Hall S → Caller S → BookView S → Type 0
  IsKeeperOf meaning hall c b = IsKeeperIn meaning (id_of (hall_name hall)) (script_of hall) c b

  -- what its ticket may still call, by its record in this book
  abbrev pub list_in : Caller S → BookView S → List Symbol
  list_in c b = foresight_in (record_of b.book c.number)

  -- this is so of the ticket that it serves, by this book
  abbrev pub OnBook : Meaning → Caller S → BookView S → (Meaning → Book → ℕ → Type 0) → Type 0
  OnBook m c b P = OnServing c.stage (λ t. P m b.book t)

  -- a holding of the caller c with the book o becomes so one of the caller d with the book u,
  -- whatever the two count
  abbrev pub Becomes : (Holding S → Holding S → Type 0) → Caller S → Option (BookView S)
      → Caller S → Option (BookView S) → Type 0
  Becomes R c o d u = (ends entered later after : ℕ)
      → R (record { caller = c; book = o; ends = ends; entered = entered })
      (record { caller = d; book = u; ends = later; entered = after })

  -- what is answered and left where the book is asked for: it is taken and found so, or it is found
  -- taken
  abbrev pub AsksBook : (S → Meaning) → Hall S → Caller S → Caller S → Option (BookView S) → Type 0
  AsksBook meaning hall p q None = IsCallerOf meaning hall q
      × IsBusy (meaning (script_of hall)) p q 0 (givings p.seat)
  AsksBook meaning hall p q (Some b) = IsKeeperOf meaning hall q b
      × Becomes (λ h k. TookBookAs (meaning (script_of hall)) h k b.book) p None q (Some b)
