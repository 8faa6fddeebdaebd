use Rattle.std.proofs.Common.{◌<◌, length, arith, ap, sym, ◌∙◌}
use Rattle.waiting_pairs.proofs.RowLists.{no_row, rows_more}
use Rattle.waiting_pairs.proofs.counting.rows_in.Goals as goal
use Rattle.waiting_pairs.proofs.counting.rows_in.Goals.{in-Some+in_ok-push-in-Some, in-None}

pub loop-at-preserved : goal.loop-at-preserved
loop-at-preserved c =
    let lt : c.loop-at.at < length c.args.found.now.entries = omega (arith, c.loop-at-test.true, c.len-at-end.ensures.len) in
    elim c.match-row_at.branch [
      | in-Some+in_ok-push-in-Some w ↦ ap (λ v. v.items) w.rows-is ∙ rows_more c.args.found.now.entries c.loop-at.at w.in-Some.row c.loop-at.rows.items w.push.new.self.items lt (sym w.in-Some.is ∙ c.row_at.ensures) w.in_ok-push-in-Some.ensures.items c.loop-at.invariant
      | in-None w ↦ absurd (no_row c.args.found.now.entries c.loop-at.at lt (sym w.in-None.is ∙ c.row_at.ensures))
    ]
