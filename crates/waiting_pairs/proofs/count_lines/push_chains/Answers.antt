use Rattle.std.proofs.Common.{string_bytes}
use Rattle.waiting_pairs.specs.CountLines.{chain_line}
use Rattle.waiting_pairs.proofs.Mapped.{vec_lines_all, vec_lines_more}
use Rattle.waiting_pairs.proofs.count_lines.push_chains.Goals as goal

pub loop-chain-preserved : goal.loop-chain-preserved
loop-chain-preserved c = vec_lines_more chain_line c.args.chains.now c.loop-chain.chain-index c.chain-item.result (string_bytes c.args.out.now) (string_bytes c.loop-chain.out) (string_bytes c.push_chain.new.out) _ c.loop-chain-test.true c.chain-item.is c.deref.ensures.value c.in_ok-push_chain.ensures c.loop-chain.invariant

pub returns : goal.returns
returns c = vec_lines_all chain_line c.args.chains.now c.loop-chain.chain-index (string_bytes c.args.out.now) (string_bytes c.loop-chain.out) c.loop-chain-test.false c.loop-chain.invariant
