use Rattle.std.proofs.Common.{◌≡◌}
use Rattle.serve_reading.specs.Resolved.{code_at}
use Rattle.waiting_pairs.specs.Waits.{gather, operations}
use Rattle.waiting_pairs.proofs.asked.asked_of.Given as goal

abbrev pub invariant-loop-h : goal.invariant-loop-h
invariant-loop-h l = l.out.items ≡ gather (λ h. operations h (code_at l.program.file h)) l.h
