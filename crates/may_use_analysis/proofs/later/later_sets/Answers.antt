use Rattle.std.proofs.Common.{◌≡◌, [], ◌∷◌, length, map, get_or, length-append, ap, subst, arith}
use Rattle.std.proofs.lemmas.Result.{err_from_is_err_and}
use Rattle.check_meaning.specs.Code.{Code}
use Rattle.handler_check.specs.Checked.{IsKept}
use Rattle.handler_check.specs.Resolved.{code_at}
use Rattle.may_use_analysis.specs.Numbered.{ArePointLists, by_number}
use Rattle.may_use_analysis.proofs.Own.{lists_within}
use Rattle.may_use_analysis.proofs.TopLemmas.{all_listed, long_found, lists_by_number, more_lists}
use Rattle.may_use_analysis.proofs.later.later_sets.Goals as goal

pub returns-in_err-lists-clause-lists : goal.returns-in_err-lists-clause-lists
returns-in_err-lists-clause-lists c =
    let p = err_from_is_err_and c.from_residual.result c.from_residual.ensures.1 in
    rw (p.1, p.2) (long_found c.args.checked.now c.loop-h.h c.handler.result.now _ (λ k. by_number (get_or c.loop-h.handlers.items k [])) (omega arith) c.handler.ensures.resolved c.handler.ensures.body c.loop-h.invariant.each c.in_err-lists.ensures.refused)

pub loop-h-preserved : goal.loop-h-preserved
loop-h-preserved c =
    let f = c.args.checked.now in
    let h = c.loop-h.h in
    let lists = c.in_ok-lists.lists in
    let are = subst (λ (z : Code). ArePointLists z lists) c.handler.ensures.body c.in_ok-lists.ensures.lists in
    record {
      count = omega (arith, ap length c.in_ok-push.ensures.items, length-append c.loop-h.handlers.items (lists ∷ []), c.loop-h.invariant.count);
      each = more_lists by_number [] f c.loop-h.handlers.items c.push.new.self.items lists h c.loop-h.invariant.count c.in_ok-push.ensures.items c.loop-h.invariant.each (all_listed (code_at f h) lists are (rw c.if-not-are_kept.false at c.are_kept.ensures) c.in_ok-lists.ensures.short);
    }

pub returns-clause-own : goal.returns-clause-own
returns-clause-own c =
    let f = c.args.checked.now in
    let items = c.loop-h.handlers.items in
    let len : length items ≡ c.loop-h.h = c.loop-h.invariant.count in
    let kept : IsKept f = record { accepted = c.file-file.ensures.accepted; bounded = c.file-file.ensures.bounds } in
    lists_within f (map by_number items) kept (lists_by_number f items (omega (arith, len)) (λ k lt. c.loop-h.invariant.each k (omega (arith, len, lt))))
