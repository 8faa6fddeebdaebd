use Rattle.std.proofs.Common.{arith, rules}
use Rattle.std.proofs.lemmas.Grind.{common_steps}
use Rattle.plain_desk.proofs.desk.PlainDesk.start.Goals as goal

pub returns-then-t-requests-clause-none : goal.returns-then-t-requests-clause-none
returns-then-t-requests-clause-none g c = search rules

pub returns-clause-begins : goal.returns-clause-begins
returns-clause-begins g c = grind (arith, common_steps)
