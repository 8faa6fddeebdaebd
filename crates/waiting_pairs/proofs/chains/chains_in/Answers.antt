use Rattle.std.proofs.Common.{length, ap, ◌∙◌, map}
use Rattle.std.proofs.lemmas.Result.{IfOk-weaker}
use Rattle.waiting_pairs.specs.Steps.{way}
use Rattle.waiting_pairs.proofs.Heads.{heads_within}
use Rattle.waiting_pairs.proofs.chains.chains_in.Goals as goal

pub ways-requires-clause-heads : goal.ways-requires-clause-heads
ways-requires-clause-heads c = heads_within c.args.table.now c.most_of-most.result (length c.args.table.now) c.in_ok-heads.heads.items c.as_slice-first.result.now c.as_slice-first.ensures.value c.in_ok-heads.ensures

pub returns : goal.returns
returns c = IfOk-weaker c.ways.result _ _ (λ chains h. record {
  most = c.most_of-most.result;
  is_most = c.most_of-most.ensures;
  heads = c.in_ok-heads.heads.items;
  are_heads = c.in_ok-heads.ensures;
  are_ways = h ∙ ap (map (way c.args.table.now)) c.as_slice-first.ensures.value;
}) c.ways.ensures
