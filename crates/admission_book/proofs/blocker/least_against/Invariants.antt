use Rattle.admission_book.specs.CallerRecord.{servings}
use Rattle.admission_book.specs.Found.{Scanned}
use Rattle.admission_book.proofs.blocker.least_against.Given as goal

abbrev pub invariant-loop-r : goal.invariant-loop-r
invariant-loop-r g l = Scanned (servings (g.S.Tickets.meaning l.script) l.records) l.t l.op l.r-index l.found
