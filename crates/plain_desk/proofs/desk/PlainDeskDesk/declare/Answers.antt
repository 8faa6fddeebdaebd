use Rattle.std.proofs.Common.{rules}
use Rattle.plain_desk.proofs.desk.PlainDeskDesk.declare.Goals as goal

pub returns-clause-narrowed : goal.returns-clause-narrowed
returns-clause-narrowed g c = search rules
