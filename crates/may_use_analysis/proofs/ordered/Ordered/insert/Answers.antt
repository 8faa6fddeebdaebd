use Rattle.std.proofs.Common.{◌≡◌, ◌↔◌, ◌⊎◌, List, Contains, sym, subst, rules}
use Rattle.std.specs.Prelude.{Err}
use Rattle.std.specs.List.Sorted.{IsStrictlySortedBy}
use Rattle.symbolic_ops.specs.Order.{symbol_cmp}
use Rattle.symbolic_ops.specs.declared.symbol.Symbol.{Symbol}
use Rattle.may_use_analysis.specs.Ordered.{IsSearched}
use Rattle.may_use_analysis.specs.Vars.{AllCovered}
use Rattle.may_use_analysis.proofs.Sorting.{inserted_sorted, inserted_members}
use Rattle.may_use_analysis.proofs.VarLemmas.{inserted_covered}
use Rattle.may_use_analysis.proofs.ordered.Ordered.insert.Goals as goal

pub invariant_of-self-in-Err : goal.invariant_of-self-in-Err
invariant_of-self-in-Err c =
    let xs = c.self.inside.symbols.items in
    let m = subst (λ (z : List Symbol). IsSearched z c.args.s (Err c.in-Err.i)) c.as_slice.ensures.value c.in-Err.ensures in
    let v = c.with_symbol-vars in
    subst (λ (z : List Symbol). IsStrictlySortedBy symbol_cmp z × AllCovered v.result.bits z) (sym c.in_ok-insert-in-Err.ensures.items) (inserted_sorted xs c.in-Err.i c.args.s c.self.invariant.0 m, inserted_covered xs c.in-Err.i c.args.s c.self.inside.vars.bits v.result.bits c.self.invariant.1 v.ensures.still v.ensures.here)

pub returns-in_ok-insert-in-Err : goal.returns-in_ok-insert-in-Err
returns-in_ok-insert-in-Err c =
    let xs = c.self.inside.symbols.items in
    let new = c.insert.new.self.items in
    let members = subst (λ (z : List Symbol). (q : Symbol) → Contains z q ↔ (Contains xs q ⊎ (q ≡ c.args.s))) (sym c.in_ok-insert-in-Err.ensures.items) (λ q. inserted_members xs c.in-Err.i c.args.s q) in
    subst (λ (z : List Symbol). (q : Symbol) → Contains new q ↔ (Contains z q ⊎ (q ≡ c.args.s))) c.self.view_is members

pub invariant_of-self : goal.invariant_of-self
invariant_of-self c =
    let same : c.insert.new.self.items ≡ c.self.inside.symbols.items = search rules in
    subst (λ (z : List Symbol). IsStrictlySortedBy symbol_cmp z × AllCovered c.self.inside.vars.bits z) (sym same) c.self.invariant
