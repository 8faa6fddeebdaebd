use Rattle.std.proofs.Common.{ℕ, ◌<◌, ◌++◌, ◌∷◌, [], length, sym, ap, ◌∙◌, arith}
use Rattle.std.proofs.lemmas.List.Sums.{sum_by_more}
use Rattle.request_files.proofs.ClientSteps.{starts_more}
use Rattle.request_files.proofs.clients.starts_of.Goals as goal

pub loop-count-preserved : goal.loop-count-preserved
loop-count-preserved c =
    let cs = c.args.counts.now in
    let i = c.loop-count.count-index in
    let h : i < length cs = omega (arith, c.loop-count-test.true) in
    record {
      starts = c.in_ok-push.ensures.items ∙ ap (λ xs. xs ++ c.loop-count.start ∷ []) c.loop-count.invariant.starts ∙ sym (starts_more cs i c.loop-count.start h c.loop-count.invariant.start);
      start = omega (arith, c.loop-count.invariant.start, sum_by_more (λ (x : ℕ). x) cs i 0 h);
    }
