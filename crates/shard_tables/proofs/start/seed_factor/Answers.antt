use Rattle.shard_tables.proofs.Masks.{factor_within}
use Rattle.shard_tables.proofs.start.seed_factor.Goals as goal

pub returns : goal.returns
returns c = factor_within c.args.seed
