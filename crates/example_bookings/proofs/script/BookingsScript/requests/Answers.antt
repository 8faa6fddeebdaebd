use Rattle.example_bookings.proofs.Lawful.{lawful}
use Rattle.example_bookings.proofs.script.BookingsScript.requests.Goals as goal

pub returns-clause-lawful : goal.returns-clause-lawful
returns-clause-lawful c = lawful c.args.self.now.list.now c.args.self.now.few
