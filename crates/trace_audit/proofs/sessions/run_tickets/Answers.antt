use Rattle.std.proofs.Common.{arith}
use Rattle.handler_machine.specs.Scripts.{meaning}
use Rattle.trace_audit.proofs.Running.{all_run}
use Rattle.trace_audit.proofs.sessions.run_tickets.Goals as goal

pub returns-clause-run : goal.returns-clause-run
returns-clause-run c = all_run (meaning c.args.scripts.now) c.loop-t.t c.loop-t.desk (omega (arith, c.loop-t-test.false, c.requests-t-end.ensures.requests)) c.loop-t.invariant.run
