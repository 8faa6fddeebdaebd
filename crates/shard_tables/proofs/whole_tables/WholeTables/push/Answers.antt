use Rattle.std.proofs.Common.{ap, ◌∙◌}
use Rattle.shard_tables.specs.Whole.{held}
use Rattle.shard_tables.proofs.Whole.{one_more}
use Rattle.shard_tables.proofs.whole_tables.WholeTables.push.Goals as goal

pub returns-clause-tables : goal.returns-clause-tables
returns-clause-tables c = ap held c.in_ok-push.ensures.items ∙ one_more c.self.inside.parts.items c.args.part c.args.self.now c.self.view_is
