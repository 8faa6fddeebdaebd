use Rattle.std.proofs.Common.{◌≡◌, ◌*◌, ◌≤◌}
use Rattle.session_values.specs.Sums.{sum_below}
use Rattle.check_meaning.specs.Bounds.{calls_bound}
use Rattle.handler_check.specs.Resolved.{code_at}
use Rattle.request_files.specs.Session.{request_at}
use Rattle.handler_machine.proofs.sums.count_calls.Given as goal

abbrev pub invariant-loop-t : goal.invariant-loop-t
invariant-loop-t l = record {
  sum : l.total ≡ sum_below l.t (λ t. calls_bound (code_at l.checked (request_at l.requests t).handler));
  few : l.total ≤ 10000 * l.t;
}
