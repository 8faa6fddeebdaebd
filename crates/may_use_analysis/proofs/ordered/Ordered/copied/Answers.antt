use Rattle.std.proofs.Common.{◌≡◌, List, sym, subst, rules}
use Rattle.std.specs.List.Sorted.{IsStrictlySortedBy}
use Rattle.symbolic_ops.specs.Order.{symbol_cmp}
use Rattle.symbolic_ops.specs.declared.symbol.Symbol.{Symbol}
use Rattle.may_use_analysis.specs.Vars.{AllCovered}
use Rattle.may_use_analysis.proofs.ordered.Ordered.copied.Goals as goal

pub invariant_of-result : goal.invariant_of-result
invariant_of-result c =
    let same : c.in_ok-symbols.symbols.items ≡ c.self.inside.symbols.items = search rules in
    subst (λ (z : List Symbol). IsStrictlySortedBy symbol_cmp z × AllCovered c.self.inside.vars.bits z) (sym same) c.self.invariant
