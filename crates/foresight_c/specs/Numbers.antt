-- The numbers that the calls over a handle return.
use Rattle.std.specs.Prelude.{ℕ}

-- all was done
abbrev pub fine : ℕ
fine = 0

-- a rule is broken
abbrev pub refused : ℕ
refused = 1

-- memory ran out
abbrev pub no_memory : ℕ
no_memory = 3

-- there may be no room for one more reply
abbrev pub no_room : ℕ
no_room = 5

-- a number that C gives means nothing here
abbrev pub unread : ℕ
unread = 10

-- the handle isn't at this: it has nothing, or has something already, or something else
abbrev pub wrong : ℕ
wrong = 11

-- no place is left for so many symbols, or no number for one more ticket
abbrev pub full : ℕ
full = 12

-- no such ticket is open
abbrev pub no_ticket : ℕ
no_ticket = 13

-- there would be too many names
abbrev pub too_many_names : ℕ
too_many_names = 15

-- the bytes are no text
abbrev pub not_text : ℕ
not_text = 16

-- nothing is told of a refusal
abbrev pub unexplained : ℕ
unexplained = 17

-- a ticket is open
abbrev pub open_tickets : ℕ
open_tickets = 19

-- an open ticket is in the way
abbrev pub delayed : ℕ
delayed = 20

-- the ticket hasn't declared it
abbrev pub undeclared : ℕ
undeclared = 21

-- it is no operation of the tables
abbrev pub misfit : ℕ
misfit = 22
