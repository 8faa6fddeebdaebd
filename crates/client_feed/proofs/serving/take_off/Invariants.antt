-- While keys are taken off: there is a number for each table.
use Rattle.std.proofs.Common.{◌≡◌, length}
use Rattle.client_feed.proofs.serving.take_off.Given as goal

abbrev pub invariant-loop-table : goal.invariant-loop-table
invariant-loop-table g l = length l.later ≡ length l.fn.later
