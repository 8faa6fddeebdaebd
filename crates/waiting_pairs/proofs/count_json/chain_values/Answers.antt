use Rattle.serde_json.specs.View.{view}
use Rattle.waiting_pairs.specs.CountJson.{chain_value}
use Rattle.waiting_pairs.proofs.Mapped.{vec_values_all, vec_values_more}
use Rattle.waiting_pairs.proofs.count_json.chain_values.Goals as goal

pub loop-chain-preserved : goal.loop-chain-preserved
loop-chain-preserved c = vec_values_more view chain_value c.args.chains.now c.loop-chain.chain-index c.chain-item.result c.loop-chain.values.items c.push.new.self.items c.in_ok-chain_value.field-0 _ c.loop-chain-test.true c.chain-item.is c.deref.ensures.value c.in_ok-push.ensures.items c.in_ok-chain_value.ensures c.loop-chain.invariant

pub returns : goal.returns
returns c = vec_values_all view chain_value c.args.chains.now c.loop-chain.chain-index c.loop-chain.values.items c.loop-chain-test.false c.loop-chain.invariant
