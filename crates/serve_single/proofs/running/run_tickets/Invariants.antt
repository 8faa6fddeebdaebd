use Rattle.std.proofs.Common.{◌≤◌, vec_capacity}
use Rattle.handler_machine.specs.Scripts.{meaning}
use Rattle.serve_single.specs.Serving.{AreServed}
use Rattle.serve_single.proofs.running.run_tickets.Given as goal

-- the tickets below this one were served
abbrev pub invariant-loop-t : goal.invariant-loop-t
invariant-loop-t l = record {
  served : AreServed (meaning l.scripts) l.t l.replies.items l.tables.tables;
  room : (meaning l.scripts).requests ≤ vec_capacity l.replies;
}
