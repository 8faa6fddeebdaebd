use Rattle.trace_audit.proofs.Tickets.{Done}
use Rattle.trace_audit.proofs.replaying.first_unreplayed.Given as goal

abbrev pub invariant-loop-t : goal.invariant-loop-t
invariant-loop-t l = Done l.initial.tables l.replays l.t l.tables
