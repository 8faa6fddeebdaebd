use Rattle.std.proofs.Common.{◌≡◌, ℕ, ◌+◌, ◌*◌, ◌≤◌, subst, arith}
use Rattle.std.proofs.lemmas.Option.{slice_get_within}
use Rattle.session_values.specs.Sums.{sum_below}
use Rattle.session_hall.specs.OnShards.{AreHere, keys_of_row}
use Rattle.session_hall.specs.Working.{IsAnyShard}
use Rattle.session_hall.proofs.FoundInHand.{counts_more, found_there, lacks}
use Rattle.session_hall.proofs.ShardsByTurn.{counts_here, keys_here}
use Rattle.session_hall.proofs.on_shards.counted.Goals as goal

pub returns-in_default : goal.returns-in_default
returns-in_default g c = lacks c.args.hands.now.pairs c.args.first c.loop-i.i c.args.many (omega (arith, c.loop-i-test.true)) c.in_default.ensures

pub keys_at-requires-clause-within : goal.keys_at-requires-clause-within
keys_at-requires-clause-within g c = slice_get_within c.args.hands.now.pairs c.in-Some.at c.in-Some.ensures.0 c.in-Some.ensures.1

pub keys_at-requires-clause-shard : goal.keys_at-requires-clause-shard
keys_at-requires-clause-shard g c = counts_here c.args.hands.now.pairs c.requires.once (c.args.first + c.loop-i.i) c.in-Some.at c.in-Some.ensures
    (found_there c.args.hands.now.pairs (c.args.first + c.loop-i.i) c.in-Some.at c.in-Some.ensures (λ x. IsAnyShard x) (c.requires.shards (c.args.first + c.loop-i.i) (omega arith) (omega (arith, c.loop-i-test.true))))

pub loop-i-preserved : goal.loop-i-preserved
loop-i-preserved g c = counts_more c.args.hands.now.pairs c.args.first c.loop-i.i c.in-Some.at c.keys_at.result c.loop-i.count c.in-Some.ensures c.loop-i.invariant
    (keys_here c.args.hands.now.pairs c.requires.once (c.args.first + c.loop-i.i) c.in-Some.at c.in-Some.ensures c.keys_at.result c.keys_at.ensures) (omega (arith, c.keys_at.type_inv))

pub returns : goal.returns
returns g c =
    let e : c.loop-i.i ≡ c.args.many = omega (arith, c.loop-i-test.false, c.loop-i.auto.i-end) in
    let P : ℕ → Type 0 = λ i. AreHere c.args.hands.now.pairs c.args.first i × (c.loop-i.count ≡ sum_below i (keys_of_row c.args.hands.now.pairs c.args.first)) × (c.loop-i.count ≤ i * 4294967295) in
    subst P e c.loop-i.invariant
