use Rattle.std.proofs.Common.{string_bytes}
use Rattle.waiting_pairs.specs.Lines.{head, line}
use Rattle.waiting_pairs.proofs.Written.{lines_more}
use Rattle.waiting_pairs.proofs.lines.wait_lines.Goals as goal

pub loop-wait-preserved : goal.loop-wait-preserved
loop-wait-preserved c = lines_more (line c.args.names.now c.args.program.now.file c.args.text.now) c.args.waits.now c.loop-wait.wait-index c.wait-item.result head (string_bytes c.loop-wait.out) (string_bytes c.push_wait.new.out) c.loop-wait-test.true c.wait-item.is c.in_ok-push_wait.ensures c.loop-wait.invariant
