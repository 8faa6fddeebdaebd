use Rattle.std.proofs.Common.{◌≡◌, subst, ap, rules}
use Rattle.std.specs.Ordering.{is_lt, eq_by_cmp}
use Rattle.std.proofs.lemmas.Fn.{dedup_same}
use Rattle.std.proofs.lemmas.List.Sorted.{IsPermutation-sym, answers_always}
use Rattle.symbolic_ops.specs.Order.{symbol_cmp}
use Rattle.may_use_analysis.specs.Vars.{AllCovered}
use Rattle.may_use_analysis.proofs.Sorting.{symbol_order, in_order, same_members}
use Rattle.may_use_analysis.proofs.ordered.put_in_order.Goals as goal

pub returns-clause-members : goal.returns-clause-members
returns-clause-members c =
    let kept = dedup_same _ (eq_by_cmp symbol_cmp) _ (λ x y b f' x' y' k. search rules) _ _ c.dedup_by.ensures.filtered in
    same_members c.args.list.now.items c.sort_unstable_by.new.self.items c.dedup_by.new.self.items c.sort_unstable_by.ensures.permutation (IsPermutation-sym _ _ c.sort_unstable_by.ensures.permutation) kept

pub returns-clause-order : goal.returns-clause-order
returns-clause-order c =
    let kept = dedup_same _ (eq_by_cmp symbol_cmp) _ (λ x y b f' x' y' k. search rules) _ _ c.dedup_by.ensures.filtered in
    let sorted = c.sort_unstable_by.ensures.sorted (λ x y. is_lt (symbol_cmp x y)) symbol_order (answers_always _ _ _ (λ f a r f' k. let h : r ≡ symbol_cmp a.0.now a.1.0.now = search rules in ap is_lt h)) in
    in_order c.args.list.now.items c.sort_unstable_by.new.self.items c.dedup_by.new.self.items c.sort_unstable_by.ensures.permutation sorted kept

pub returns-clause-covered : goal.returns-clause-covered
returns-clause-covered c = subst (AllCovered c.of.result.bits) c.as_slice.ensures.value c.of.ensures
