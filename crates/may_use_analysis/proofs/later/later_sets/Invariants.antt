use Rattle.std.proofs.Common.{◌≡◌, ℕ, ◌<◌, length, []}
use Rattle.std.specs.Prelude.{slice_index_or}
use Rattle.handler_check.specs.Resolved.{code_at}
use Rattle.may_use_analysis.specs.Later.{HasLists}
use Rattle.may_use_analysis.specs.Numbered.{by_number}
use Rattle.may_use_analysis.proofs.later.later_sets.Given as goal

abbrev pub invariant-loop-h : goal.invariant-loop-h
invariant-loop-h l = record {
  count : length l.handlers.items ≡ l.h;
  each : (k : ℕ) → k < l.h → HasLists (code_at l.checked k) (by_number (slice_index_or l.handlers.items k []));
}
