use Rattle.std.proofs.Common.{List, ap, arith}
use Rattle.shard_tables.specs.declared.part.Part.{Part}
use Rattle.hall_rule.specs.Listing.{all_sizes}
use Rattle.session_hall.proofs.Listed.{are_left, sizes_small}
use Rattle.session_hall.proofs.closed.Closed.len.Goals as goal

pub count_entries-requires : goal.count_entries-requires
count_entries-requires c =
    let closed = c.shards_at.ensures.closed in
    omega (arith, sizes_small closed.0 c.args.self.now closed.1 c.args.table c.requires, ap (λ (l : List Part). all_sizes l) c.shards_at.ensures.shards)

pub returns-clause-left : goal.returns-clause-left
returns-clause-left c = λ m k.
    are_left m c.args.self.now k c.args.table c.requires c.shards_at.result.now c.shards_at.ensures.shards c.count_entries.result c.count_entries.ensures.count c.count_entries.ensures.size c.count_entries.ensures.apart
