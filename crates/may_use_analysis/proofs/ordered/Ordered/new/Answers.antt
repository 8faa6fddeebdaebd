use Rattle.std.proofs.Common.{List, Contains, subst}
use Rattle.symbolic_ops.specs.Order.{symbol_cmp}
use Rattle.symbolic_ops.specs.declared.symbol.Symbol.{Symbol}
use Rattle.may_use_analysis.proofs.Sorting.{sorted_nil}
use Rattle.may_use_analysis.proofs.Unique.{none_in_nil}
use Rattle.may_use_analysis.proofs.ordered.Ordered.new.Goals as goal

pub invariant_of-result : goal.invariant_of-result
invariant_of-result c =
    (sorted_nil symbol_cmp _ c.new.ensures.items, λ s m. absurd (none_in_nil s (subst (λ (z : List Symbol). Contains z s) c.new.ensures.items m)))
