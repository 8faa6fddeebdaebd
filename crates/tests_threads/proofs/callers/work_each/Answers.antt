use Rattle.std.proofs.Common.{sym, ap, ◌∙◌, subst, length, drop, get_or}
use Rattle.std.proofs.lemmas.Option.{slice_get-get_or}
use Rattle.std.specs.Prelude.{slice_get}
use Rattle.turn_board.specs.Boards.{Ends}
use Rattle.tests_threads.proofs.Counting.{front-of, read-as}
use Rattle.tests_threads.proofs.callers.work_each.Goals as goal

pub work_all-requires-clause-seats : goal.work_all-requires-clause-seats
work_all-requires-clause-seats g c = λ κs _ i d h. let l = c.as_mut_slice.result.now in
    c.requires.seats i (get_or l i d) (ap (λ y. slice_get y i) (sym c.as_mut_slice.ensures.value) ∙ slice_get-get_or l i d h)

pub returns-clause-each : goal.returns-clause-each
returns-clause-each g c = λ i s e.
    let new = c.work_all.new.seats in
    let long = c.args.seats.now.ok.0 ∙ ap length (sym c.as_mut_slice.ensures.value) ∙ sym c.work_all.auto.seats in
    let h = read-as new i s s (sym (ap (λ y. slice_get y i) (front-of c.args.seats.now.len new (drop (length new) c.args.seats.now.items) long)) ∙ e) in
    subst (Ends c.args.board.now 4 i) h.1 (c.work_all.ensures i s h.0)
