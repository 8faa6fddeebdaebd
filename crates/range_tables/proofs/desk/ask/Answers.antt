use Rattle.range_tables.specs.Shards.{map_shard}
use Rattle.range_tables.proofs.Taken.{size_after}
use Rattle.range_tables.proofs.desk.ask.Goals as goal

pub returns-in_err-push_reply-in-None-clause-size : goal.returns-in_err-push_reply-in-None-clause-size
returns-in_err-push_reply-in-None-clause-size c = size_after (map_shard c.args.table.now).container (map_shard c.apply-reply.new.self).container c.args.op c.apply-reply.ensures.after

pub returns-in_ok-push_reply-in-None-clause-size : goal.returns-in_ok-push_reply-in-None-clause-size
returns-in_ok-push_reply-in-None-clause-size c = size_after (map_shard c.args.table.now).container (map_shard c.apply-reply.new.self).container c.args.op c.apply-reply.ensures.after
