use Rattle.std.proofs.Common.{◌≡◌, ◌≤◌, take, length}
use Rattle.session_journal.specs.Journal.{done_operations}
use Rattle.serve_core.proofs.counting.count_calls.Given as goal

abbrev pub invariant-loop-event : goal.invariant-loop-event
invariant-loop-event l = record {
  calls : l.calls ≡ length (done_operations (take l.event-index l.events));
  few : l.calls ≤ l.event-index;
}
