use Rattle.std.proofs.Common.{◌≡◌, ℕ, [], length}
use Rattle.std.specs.Prelude.{slice_index_or}
use Rattle.may_use_analysis.proofs.heads.extend_to.Given as goal

abbrev pub invariant-loop-i : goal.invariant-loop-i
invariant-loop-i l = record {
  count : length l.lists.items ≡ l.i;
  same : (k : ℕ) → slice_index_or l.lists.items k [] ≡ slice_index_or l.fn.lists.items k [];
}
