use Rattle.std.proofs.Common.{◌≡◌, ap, rules}
use Rattle.std.proofs.lemmas.Fn.{always_returns_same}
use Rattle.std.proofs.lemmas.List.Sorted.{ranks_by}
use Rattle.std.specs.Ordering.{is_lt}
use Rattle.session_values.specs.Opening.{Pair}
use Rattle.table_lines.specs.Written.{written, written_cmp}
use Rattle.table_lines.proofs.WrittenOrder.{written_cmp_total}
use Rattle.table_lines.proofs.order.put_in_order.Goals as goal

pub returns-clause-order : goal.returns-clause-order
returns-clause-order c =
    let names = c.args.names.now in
    c.sort_unstable_by.ensures.sorted (λ (a b : Pair). is_lt (written_cmp (written names a.0) (written names b.0))) (ranks_by written_cmp_total (λ (e : Pair). written names e.0))
    (always_returns_same _ _ _ (λ a r f' k. (let h : r ≡ written_cmp (written names a.0.now.0) (written names a.1.0.now.0) = search rules in ap is_lt h, search rules)))
