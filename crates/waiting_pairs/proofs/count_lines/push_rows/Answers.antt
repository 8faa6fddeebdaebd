use Rattle.std.proofs.Common.{string_bytes}
use Rattle.waiting_pairs.specs.CountLines.{line}
use Rattle.waiting_pairs.proofs.Mapped.{lines_more}
use Rattle.waiting_pairs.proofs.count_lines.push_rows.Goals as goal

pub loop-row-preserved : goal.loop-row-preserved
loop-row-preserved c = lines_more (line c.args.names.now c.args.program.now.file) c.args.rows.now c.loop-row.row-index c.row-item.result (string_bytes c.args.out.now) (string_bytes c.loop-row.out) (string_bytes c.push_row.new.out) c.loop-row-test.true c.row-item.is c.in_ok-push_row.ensures c.loop-row.invariant
