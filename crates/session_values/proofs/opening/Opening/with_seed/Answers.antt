use Rattle.std.proofs.Common.{sym, subst, ap, arith, ◌∙◌}
use Rattle.session_values.specs.Opening.{AreKept, count_all}
use Rattle.session_values.proofs.KeptLemmas.{empty_kept, none_counted}
use Rattle.session_values.proofs.opening.Opening.with_seed.Goals as goal

pub invariant_of-result : goal.invariant_of-result
invariant_of-result c =
    let is = c.loop-table.invariant in
    (subst AreKept (sym is) (empty_kept c.loop-table._table (omega arith)), sym (ap count_all is ∙ none_counted c.loop-table._table))
