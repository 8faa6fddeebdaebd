use Rattle.std.proofs.Common.{◌≡◌, ◌++◌, take, string_bytes}
use Rattle.std.specs.List.{flat_map}
use Rattle.waiting_pairs.specs.CountLines.{chain_line}
use Rattle.waiting_pairs.proofs.count_lines.push_chains.Given as goal

abbrev pub invariant-loop-chain : goal.invariant-loop-chain
invariant-loop-chain l = string_bytes l.out ≡ string_bytes l.fn.out ++ flat_map (λ v. chain_line v.items) (take l.chain-index l.chains)
