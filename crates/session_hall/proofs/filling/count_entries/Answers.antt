use Rattle.std.proofs.Common.{◌≡◌, ◌+◌, List, drop, ap, arith, drop_of_length-le}
use Rattle.session_journal.specs.Opening.{Pair, entries_of}
use Rattle.hall_rule.specs.Filling.{count_in}
use Rattle.hall_rule.proofs.Filling.{count_elsewhere, count_here, count_length}
use Rattle.session_hall.proofs.filling.count_entries.Goals as goal
use Rattle.session_hall.proofs.filling.count_entries.Goals.{then-shard_of-shard, else-shard_of-shard}

pub overflow_add-count : goal.overflow_add-count
overflow_add-count g c =
    let es : List Pair = entries_of (g.S.Script.meaning c.args.script.now).opened c.args.table in
    let here : count_in c.args.shards c.args.shard (drop c.loop-i.i es) ≡ 1 + count_in c.args.shards c.args.shard (drop (c.loop-i.i + 1) es) = count_here c.args.shards c.args.shard es c.loop-i.i _ c.opening_entry-key.ensures (omega (arith, c.shard_of.ensures.shard, c.if-shard_of-shard.true)) in
    omega (arith, here, c.loop-i.invariant, count_length c.args.shards c.args.shard es, c.opening_len-i-end.ensures, c.opening_len-i-end.type_inv)

pub loop-i-preserved : goal.loop-i-preserved
loop-i-preserved g c =
    let es : List Pair = entries_of (g.S.Script.meaning c.args.script.now).opened c.args.table in
    elim c.if-shard_of-shard.branch [
      | then-shard_of-shard w ↦
          let here : count_in c.args.shards c.args.shard (drop c.loop-i.i es) ≡ 1 + count_in c.args.shards c.args.shard (drop (c.loop-i.i + 1) es) = count_here c.args.shards c.args.shard es c.loop-i.i _ c.opening_entry-key.ensures (omega (arith, c.shard_of.ensures.shard, w.if-shard_of-shard.true)) in
          omega (arith, here, c.loop-i.invariant, w.count-is)
      | else-shard_of-shard w ↦
          let elsewhere : count_in c.args.shards c.args.shard (drop c.loop-i.i es) ≡ count_in c.args.shards c.args.shard (drop (c.loop-i.i + 1) es) = count_elsewhere c.args.shards c.args.shard es c.loop-i.i _ c.opening_entry-key.ensures (λ z. w.if-shard_of-shard.false (omega (arith, c.shard_of.ensures.shard, z))) in
          omega (arith, elsewhere, c.loop-i.invariant, w.count-is)
    ]

pub returns : goal.returns
returns g c =
    let es : List Pair = entries_of (g.S.Script.meaning c.args.script.now).opened c.args.table in
    let none : count_in c.args.shards c.args.shard (drop c.loop-i.i es) ≡ 0 = ap (count_in c.args.shards c.args.shard) (drop_of_length-le es {i = c.loop-i.i} (omega (arith, c.loop-i-test.false, c.opening_len-i-end.ensures))) in
    omega (arith, none, c.loop-i.invariant)
