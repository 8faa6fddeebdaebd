use Rattle.example_bookings.proofs.Lawful.{nothing_open}
use Rattle.example_bookings.proofs.script.BookingsScript.opening_entry.Goals as goal

pub returns : goal.returns
returns c = nothing_open c.args._table c.args._i _ c.requires.entry
