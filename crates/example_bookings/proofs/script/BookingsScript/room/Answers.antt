use Rattle.std.proofs.Common.{length, arith}
use Rattle.example_bookings.proofs.Lawful.{sum_same}
use Rattle.example_bookings.proofs.script.BookingsScript.room.Goals as goal

pub returns : goal.returns
returns c = omega (arith, sum_same (length c.args.self.now.list.now) 1)
