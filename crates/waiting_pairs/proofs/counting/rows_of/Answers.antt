use Rattle.std.proofs.Common.{rules}
use Rattle.waiting_pairs.proofs.Sorting.{rows_sorted}
use Rattle.waiting_pairs.proofs.counting.rows_of.Goals as goal

pub returns : goal.returns
returns c = rows_sorted c.args.causes.now c.in_ok-rows.rows.items c.sort_by_key.new.self.items c.in_ok-rows.ensures c.in_ok-sort_by_key.ensures.permutation c.in_ok-sort_by_key.ensures.sorted c.in_ok-sort_by_key.ensures.stable (λ a r q k. search rules)
