-- The session of a ticket that may get a key and one that puts it, and what its book goes through.
-- Only this crate's own functions cite it.
use Rattle.std.specs.Prelude.{ℕ, List, [], ◌∷◌}
use Rattle.session_values.specs.declared.value.Value.TheVariants.{Nil}
use Rattle.symbolic_ops.specs.declared.symbol.Symbol.{Symbol}
use Rattle.symbolic_ops.specs.Matching.{exact_symbol}
use Rattle.session_journal.specs.Lists.{ListView}
use Rattle.admission_book.specs.Book.{Book, opened, after_begin, after_narrow, after_admit, after_delay, after_done, after_end}
use Rattle.session_hall.specs.Stages.{flying, waiting}
use Rattle.tests_desks.specs.BookRows.{get_of, nil_reply, on_one_map, put_of}

-- what the tickets declare, and what the second one may call after its first put
abbrev pub may_get : List Symbol
may_get = exact_symbol (get_of 1) ∷ []

abbrev pub may_put_both : List Symbol
may_put_both = exact_symbol (put_of 2 7) ∷ exact_symbol (put_of 1 7) ∷ []

abbrev pub may_put : List Symbol
may_put = exact_symbol (put_of 1 7) ∷ []

-- a ticket that may get a key and calls nothing, and one that puts another key and then that one
abbrev pub get_or_puts : ListView
get_or_puts = on_one_map (
    record { ops = []; reply = nil_reply; entry = may_get }
    ∷ record { ops = put_of 2 7 ∷ put_of 1 7 ∷ []; reply = nil_reply; entry = may_put_both }
    ∷ []
    )

-- both tickets have begun, of three callers
abbrev pub both_begun : Book
both_begun = after_begin (after_begin (opened 2 3) 0 may_get) 1 may_put_both

-- the first put was done
abbrev pub first_admitted : Book
first_admitted = after_admit both_begun 1 (waiting 1 may_put_both) (put_of 2 7)

abbrev pub first_put : Book
first_put = after_done first_admitted 1 (flying 1 may_put_both (put_of 2 7)) (put_of 2 7) Nil
    may_put

module _ (older : ℕ) (y : Symbol) where
  -- the second put was delayed, and the other ticket narrowed to nothing
  abbrev pub second_delayed : Book
  second_delayed = after_delay first_put 1 (put_of 1 7) older y

  abbrev pub none_against : Book
  none_against = after_narrow second_delayed 0 (waiting 0 may_get) []

  -- the second put was done
  abbrev pub second_admitted : Book
  second_admitted = after_admit none_against 1 (waiting 1 may_put) (put_of 1 7)

  abbrev pub second_put : Book
  second_put = after_done second_admitted 1 (flying 1 may_put (put_of 1 7)) (put_of 1 7) Nil []

  -- the ticket that put has ended, and then the older one
  abbrev pub younger_ended : Book
  younger_ended = after_end second_put 1 (waiting 1 []) nil_reply

  abbrev pub both_ended : Book
  both_ended = after_end younger_ended 0 (waiting 0 []) nil_reply
