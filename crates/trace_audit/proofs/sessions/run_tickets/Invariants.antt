use Rattle.std.proofs.Common.{◌≡◌}
use Rattle.handler_machine.specs.Scripts.{meaning}
use Rattle.trace_audit.specs.Running.{AreRun}
use Rattle.trace_audit.proofs.sessions.run_tickets.Given as goal

-- the tickets below this one were run
abbrev pub invariant-loop-t : goal.invariant-loop-t
invariant-loop-t l = record {
  script : l.desk.script ≡ l.fn.desk.script;
  events : l.desk.events ≡ l.fn.desk.events;
  run : AreRun (meaning l.scripts) l.t l.desk;
}
