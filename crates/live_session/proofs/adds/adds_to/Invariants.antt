use Rattle.std.proofs.Common.{◌≡◌, ◌<◌, ◌≤◌, ℕ, length, get_or}
use Rattle.handler_check.specs.Bounds.{adds_bound}
use Rattle.handler_check.specs.Resolved.{code_at}
use Rattle.live_session.proofs.adds.adds_to.Given as goal

abbrev pub invariant-loop-h : goal.invariant-loop-h
invariant-loop-h l = record {
  long : length l.adds ≡ 64;
  each : (k : ℕ) → k < l.h → get_or l.adds k 0 ≡ adds_bound l.table (code_at l.checked k);
  few : (k : ℕ) → k < l.h → get_or l.adds k 0 ≤ 10000;
}
