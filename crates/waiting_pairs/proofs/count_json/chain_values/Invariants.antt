use Rattle.std.proofs.Common.{◌≡◌, map, take}
use Rattle.serde_json.specs.View.{view}
use Rattle.waiting_pairs.specs.CountJson.{chain_value}
use Rattle.waiting_pairs.proofs.count_json.chain_values.Given as goal

abbrev pub invariant-loop-chain : goal.invariant-loop-chain
invariant-loop-chain l = map view l.values.items ≡ map (λ v. chain_value v.items) (take l.chain-index l.chains)
