use Rattle.std.proofs.Common.{◌≡◌, Bool, true, false, Contains, get_or, sym, subst}
use Rattle.std.specs.Bool.{OnTrue}
use Rattle.std.specs.Ordering.{eq_by_cmp}
use Rattle.symbolic_ops.specs.Order.{symbol_cmp}
use Rattle.symbolic_ops.specs.declared.symbol.Symbol.{Symbol}
use Rattle.may_use_analysis.proofs.Sorting.{eq_exact}
use Rattle.may_use_analysis.proofs.ordered.is_at.Goals as goal

pub returns-then-i-list : goal.returns-then-i-list
returns-then-i-list c = go c.is_same.result c.is_same.ensures
  where
    go : (b : Bool) → b ≡ eq_by_cmp symbol_cmp c.index-list-i.result c.args.s.now → OnTrue b (Contains c.args.list.now c.args.s.now)
    go true e =
        (c.args.i, c.if-i-list.true, subst (λ (z : Symbol). get_or c.args.list.now c.args.i z ≡ z) (eq_exact c.index-list-i.result c.args.s.now (sym e)) (sym c.index-list-i.is))
    go false e = tt
