use Rattle.session_hall.specs.Callers.{StaysCaller}
use Rattle.session_hall.specs.Stages.{IsBetween}
use Rattle.tests_threads.proofs.next_callers.serve_rest.Given as goal

abbrev pub invariant-loop-begun : goal.invariant-loop-begun
invariant-loop-begun g l = StaysCaller g.S.Tickets.meaning l.hall l.fn.caller l.caller × IsBetween l.caller.stage
