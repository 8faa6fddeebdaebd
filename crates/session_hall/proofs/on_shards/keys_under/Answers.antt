use Rattle.std.proofs.lemmas.Option.{slice_get_within}
use Rattle.std.proofs.Common.{IsSomeAnd}
use Rattle.session_hall.specs.Working.{IsAnyShard}
use Rattle.session_hall.proofs.ShardsByTurn.{counts_here, keys_here, not_in}
use Rattle.session_hall.proofs.on_shards.keys_under.Goals as goal

pub unreachable-requires : goal.unreachable-requires
unreachable-requires g c = not_in c.args.hands.now.pairs c.args.turn c.in_default.ensures (λ k. IsSomeAnd k (λ x. IsAnyShard x)) c.requires.can

pub keys_at-requires-clause-within : goal.keys_at-requires-clause-within
keys_at-requires-clause-within g c = slice_get_within c.args.hands.now.pairs c.in-Some.i c.in-Some.ensures.0 c.in-Some.ensures.1

pub keys_at-requires-clause-shard : goal.keys_at-requires-clause-shard
keys_at-requires-clause-shard g c = counts_here c.args.hands.now.pairs c.requires.once c.args.turn c.in-Some.i c.in-Some.ensures c.requires.can

pub returns : goal.returns
returns g c = keys_here c.args.hands.now.pairs c.requires.once c.args.turn c.in-Some.i c.in-Some.ensures c.keys_at.result c.keys_at.ensures
