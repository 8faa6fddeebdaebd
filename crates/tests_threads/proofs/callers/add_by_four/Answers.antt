use Rattle.std.proofs.Common.{◌≡◌, sym, ap, ◌∙◌, subst, length, vec_len}
use Rattle.std.specs.Prelude.{slice_get, IfOk}
use Rattle.turn_board.specs.Boards.{Ends}
use Rattle.tests_threads.proofs.callers.add_by_four.Goals as goal

pub close-values-requires-clause-all : goal.close-values-requires-clause-all
close-values-requires-clause-all g c = λ i s e.
    let are = c.from_vec.ensures in
    let four = subst (λ r. IfOk r (λ x. vec_len x.1 ≡ 4)) c.expect-board.ensures c.open_board.ensures.len in
    let long = sym (ap length are ∙ sym c.work_each.new.seats.ok.0 ∙ c.work_each.ensures.len ∙ four) in
    subst (λ n. Ends c.expect-board.result.0 n i s) long (c.work_each.ensures.each i s (ap (λ l. slice_get l i) (sym are) ∙ e))
