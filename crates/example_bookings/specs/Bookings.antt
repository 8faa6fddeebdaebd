-- What a list of bookings means.
use Rattle.std.specs.Prelude.{ℕ, pos, List, [], ◌∷◌, length, slice_index_or}
use lib.Dec.{lit<}
use Rattle.session_values.specs.declared.value.Value.{Value}
use Rattle.session_values.specs.declared.value.Value.TheVariants.{Nil, Num, Sym}
use Rattle.session_values.specs.declared.kind.TableKind.{TableKind}
use Rattle.session_values.specs.declared.kind.TableKind.TheVariants.{Map, Set}
use Rattle.session_values.specs.declared.kind.Kind.TheVariants.{Get, Put, Mark}
use Rattle.session_values.specs.declared.op.Op.{Op}
use Rattle.session_values.specs.declared.reply.Reply.{Reply}
use Rattle.session_values.specs.Dialogue.{Calls, Answers, Dialogue}
use Rattle.session_values.specs.Tables.{start}
use Rattle.session_journal.specs.Opening.{Pair, no_entries}
use Rattle.symbolic_ops.specs.declared.symbol.Symbol.{Symbol}
use Rattle.symbolic_ops.specs.Matching.{exact_symbol}
use Rattle.session_journal.specs.Script.{Meaning}
use Rattle.example_bookings.specs.declared.booking.Booking.{Booking}

-- table 0 binds seats to customers, table 1 has the customers who wait
abbrev pub booking_tables : List TableKind
booking_tables = Map ∷ Set ∷ []

-- who has the seat
abbrev pub look_up : Booking → Op
look_up b = record { kind = Get; table = 0; key = Num (pos b.seat); value = Nil }

-- the customer takes the seat
abbrev pub take_seat : Booking → Op
take_seat b = record {
  kind = Put;
  table = 0;
  key = Num (pos b.seat);
  value = Num (pos b.who);
}

-- the customer waits
abbrev pub wait : Booking → Op
wait b = record { kind = Mark; table = 1; key = Num (pos b.who); value = Nil }

-- what is called where the seat was found so: nil is nobody
abbrev pub second : Booking → Value → Op
second b Nil = take_seat b
second b (Num n) = wait b
second b (Sym p) = wait b

-- who has the seat then
abbrev pub holder : Booking → Value → Value
holder b Nil = Num (pos b.who)
holder b (Num n) = Num n
holder b (Sym p) = Sym p

abbrev pub answer : Booking → Value → Reply
answer b found = record { count = 1; a = holder b found; b = Nil; c = Nil; d = Nil }

-- a booking looks its seat up, makes the call that this asks for, and is answered who has the seat
abbrev pub dialogue : Booking → Dialogue
dialogue b [] = Calls (look_up b)
dialogue b (found ∷ []) = Calls (second b found)
dialogue b (found ∷ told ∷ more) = Answers (answer b found)

-- what it declares after these replies: at first both calls that may come second, and from the
-- first reply on only what is left
abbrev pub declares : Booking → List Value → List Symbol
declares b [] = exact_symbol (look_up b) ∷ exact_symbol (take_seat b) ∷ exact_symbol (wait b) ∷ []
declares b (found ∷ []) = exact_symbol (second b found) ∷ []
declares b (found ∷ told ∷ more) = []

-- the booking of ticket t; past the last one some booking, which no ticket makes
abbrev pub no_booking : Booking
no_booking = record { seat = 0; who = 0; seat_held = lit< tt; who_held = lit< tt }

abbrev pub booking_at : List Booking → ℕ → Booking
booking_at bs t = slice_index_or bs t no_booking

-- the tables open empty
unfoldable pub bookings_opened : List (List Pair)
bookings_opened = no_entries booking_tables

-- what the list means as a script: each booking calls twice, and adds at most one key to a table. It
-- has one site, at which nothing is declared, since it declares lists
abbrev pub bookings_meaning : List Booking → Meaning
bookings_meaning bs = record {
  shape = booking_tables;
  opening = start booking_tables;
  opened = bookings_opened;
  requests = length bs;
  next = λ t. dialogue (booking_at bs t);
  length = λ t. 2;
  adds = λ t i. 1;
  entry = λ t. declares (booking_at bs t) [];
  told = λ t replies. declares (booking_at bs t) replies;
  due = λ t replies. declares (booking_at bs t) replies;
  points = λ part. 1;
  declared = λ part point. [];
}
