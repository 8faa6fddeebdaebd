use Rattle.example_bookings.proofs.Lawful.{none_open}
use Rattle.example_bookings.proofs.script.BookingsScript.opening_len.Goals as goal

pub returns : goal.returns
returns c = none_open c.args._table
