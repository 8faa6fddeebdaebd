use Rattle.std.proofs.Common.{◌*◌, ◌≤◌}
use Rattle.request_files.proofs.picking.args_in.Given as goal

abbrev pub invariant-loop-number : goal.invariant-loop-number
invariant-loop-number l = l.args ≤ 4294967295 * l.number-index
