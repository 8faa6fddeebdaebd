use Rattle.std.proofs.Common.{List, [], ◌∷◌, ◌++◌, get_or, length-append, refl, subst, arith}
use Rattle.std.proofs.lemmas.Result.{err_from_is_err_and}
use Rattle.symbolic_ops.specs.declared.symbol.Symbol.{Symbol}
use Rattle.check_meaning.specs.Code.{Code}
use Rattle.handler_check.specs.Resolved.{code_at}
use Rattle.may_use_analysis.specs.Numbered.{ArePointLists}
use Rattle.may_use_analysis.proofs.TopLemmas.{short_lists, long_found, lists_of_all, more_lists}
use Rattle.may_use_analysis.proofs.bounded.bound_later_sets.Goals as goal

pub loop-h-init : goal.loop-h-init
loop-h-init c = ([], refl, λ k lt. absurd (omega arith))

pub returns-in_err-short_lists : goal.returns-in_err-short_lists
returns-in_err-short_lists c =
    let before = c.loop-h.invariant in
    let p = err_from_is_err_and c.from_residual-in_err-short_lists.result c.from_residual-in_err-short_lists.ensures.1 in
    rw (p.1, p.2) (long_found c.args.accepted.now c.loop-h.h c.in_ok-handler.handler _ (λ k. get_or before.0 k []) (omega arith) c.in_ok-handler.ensures.resolved c.in_ok-handler.ensures.body before.2 c.in_err-short_lists.ensures.refused)

pub loop-h-preserved : goal.loop-h-preserved
loop-h-preserved c =
    let f = c.args.accepted.now in
    let h = c.loop-h.h in
    let lists = c.in_ok-short_lists.field-0 in
    let before = c.loop-h.invariant in
    let are = subst (λ (z : Code). ArePointLists z lists) c.in_ok-handler.ensures.body c.in_ok-short_lists.ensures.lists in
    let here = short_lists (code_at f h) lists are c.in_ok-short_lists.ensures.short in
    (before.0 ++ here.0 ∷ [], omega (arith, length-append before.0 (here.0 ∷ []), before.1), more_lists (λ (z : List (List Symbol)). z) [] f before.0 (before.0 ++ here.0 ∷ []) here.0 h before.1 refl before.2 here.1)

pub returns : goal.returns
returns c =
    let f = c.args.accepted.now in
    let before = c.loop-h.invariant in
    lists_of_all f before.0 c.loop-h.h (omega arith) before.1 (omega arith) before.2
