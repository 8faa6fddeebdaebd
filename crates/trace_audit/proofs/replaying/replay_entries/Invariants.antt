use Rattle.trace_audit.specs.Noted.{entries_of}
use Rattle.trace_audit.proofs.Replayed.{Done}
use Rattle.trace_audit.proofs.replaying.replay_entries.Given as goal

abbrev pub invariant-loop-noted : goal.invariant-loop-noted
invariant-loop-noted l = Done l.initial.tables (entries_of l.entries) l.noted-index l.tables
