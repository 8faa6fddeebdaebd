-- While messages are taken the end stays one of the lane.
use Rattle.std.proofs.Common.{◌≤◌}
use Rattle.hall_writing.specs.Ends.{IsEndOf}
use Rattle.tests_threads.specs.OneReply.{one_reply}
use Rattle.tests_threads.proofs.lanes.drain.Given as goal

abbrev pub invariant-loop-tried : goal.invariant-loop-tried
invariant-loop-tried g l = IsEndOf l.lane one_reply l.end × (l.taken ≤ l.tried)
