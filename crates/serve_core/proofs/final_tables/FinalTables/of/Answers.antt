use Rattle.std.proofs.Common.{ℕ, length, arith, rules}
use Rattle.session_hall.specs.Listings.{AreLeft, listed}
use Rattle.serve_core.proofs.FinalLemmas.{counted_more, one_more, shard_within}
use Rattle.serve_core.proofs.final_tables.FinalTables.of.Goals as goal

pub len-requires : goal.len-requires
len-requires c =
    let d = c.args.closed.now in
    shard_within c.loop-table.table c.args.count d.shards (length d.parts) (omega arith) c.requires.some c.requires.parts

pub loop-table-preserved : goal.loop-table-preserved
loop-table-preserved c =
    let d = c.args.closed.now in
    let long = c.loop-table.invariant.long in
    let few = c.requires.few in
    record {
      long = search rules;
      counted = counted_more c.loop-table.lengths c.loop-table.table c.len.result (λ (t : ℕ). length (listed d t)) (omega arith) c.len.ensures.count c.loop-table.invariant.counted;
      left = λ m done. one_more (λ (t : ℕ). AreLeft m t (listed d t)) c.loop-table.table (c.loop-table.invariant.left m done) (c.len.ensures.left m done);
    }

pub returns-clause-left : goal.returns-clause-left
returns-clause-left c = λ m done t lt. c.loop-table.invariant.left m done t (omega arith)
