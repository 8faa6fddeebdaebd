use Rattle.std.proofs.Common.{◌≡◌, List, Contains, sym, subst, ◌++◌, ap, ◌∙◌, rules}
use Rattle.std.specs.List.Sorted.{IsStrictlySortedBy}
use Rattle.symbolic_ops.specs.Order.{symbol_cmp}
use Rattle.may_use_analysis.specs.Vars.{AllCovered}
use Rattle.symbolic_ops.specs.declared.symbol.Symbol.{Symbol}
use Rattle.may_use_analysis.proofs.Members.{join_same, join_both}
use Rattle.may_use_analysis.proofs.ordered.Ordered.join.Goals as goal

pub returns-then-has_all-clause-union : goal.returns-then-has_all-clause-union
returns-then-has_all-clause-union c =
    let mine = subst (λ (z : List Symbol). (s : Symbol) → Contains c.as_slice-2.result.now s → Contains z s) (c.as_slice.ensures.value ∙ c.self.view_is) c.if-has_all.ensures in
    let all = subst (λ (z : List Symbol). (s : Symbol) → Contains z s → Contains c.args.self.now s) c.as_slice-2.ensures.symbols mine in
    λ q. join_same c.args.self.now c.args.more.now all q

pub returns-then-has_all-clause-same : goal.returns-then-has_all-clause-same
returns-then-has_all-clause-same c =
    let mine = subst (λ (z : List Symbol). (s : Symbol) → Contains c.as_slice-2.result.now s → Contains z s) (c.as_slice.ensures.value ∙ c.self.view_is) c.if-has_all.ensures in
    subst (λ (z : List Symbol). (s : Symbol) → Contains z s → Contains c.args.self.now s) c.as_slice-2.ensures.symbols mine

pub returns-clause-union : goal.returns-clause-union
returns-clause-union c =
    let both = c.in_ok-extend_from_slice.ensures.items ∙ ap (λ (z : List Symbol). z ++ c.as_slice-3.result.now) c.self.view_is ∙ ap (λ (z : List Symbol). c.args.self.now ++ z) c.as_slice-3.ensures.symbols in
    λ q. join_both c.args.self.now c.args.more.now c.extend_from_slice.new.self.items c.put_in_order-self-inside.new.list.items both c.put_in_order-self-inside.ensures.members q

pub invariant_of-self : goal.invariant_of-self
invariant_of-self c =
    let same : c.extend_from_slice.new.self.items ≡ c.self.inside.symbols.items = search rules in
    subst (λ (z : List Symbol). IsStrictlySortedBy symbol_cmp z × AllCovered c.self.inside.vars.bits z) (sym same) c.self.invariant
