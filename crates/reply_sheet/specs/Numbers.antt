-- The numbers of requests that arrive, in the order in which they stand in their file.
use Rattle.std.specs.Prelude.{ℕ, ◌+◌, List, map, sum, take}
use Rattle.reply_sheet.specs.declared.arrival.Arrival.{Arrival}

-- of clients with so many requests each, the number of an arrival: those of the clients before, and
-- its place among its client's
abbrev pub number_of : List ℕ → Arrival → ℕ
number_of counts x = sum (take x.client counts) + x.place

-- the numbers of arrivals, in their order
abbrev pub numbers_of : List ℕ → List Arrival → List ℕ
numbers_of counts got = map (number_of counts) got
