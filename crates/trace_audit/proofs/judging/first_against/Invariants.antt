use Rattle.trace_audit.specs.Judging.{front_of}
use Rattle.trace_audit.proofs.Judges.{SoFar}
use Rattle.trace_audit.proofs.judging.first_against.Given as goal

abbrev pub invariant-loop-at : goal.invariant-loop-at
invariant-loop-at l = SoFar l.replays l.events (front_of l.initial.front) l.at (front_of l.front)
