use Rattle.std.proofs.Common.{◌≡◌, ℕ, ◌<◌, length, Some, slice_get}
use Rattle.session_journal.specs.Script.{Meaning}
use Rattle.session_hall.specs.Closings.{IsDone}
use Rattle.session_hall.specs.Listings.{AreLeft, listed}
use Rattle.serve_core.proofs.final_tables.FinalTables.of.Given as goal

abbrev pub invariant-loop-table : goal.invariant-loop-table
invariant-loop-table l = record {
  long : length l.lengths ≡ 7;
  counted : (t : ℕ) → t < l.table → slice_get l.lengths t ≡ Some (length (listed l.closed t));
  left : (m : Meaning) → IsDone m l.closed → (t : ℕ) → t < l.table → AreLeft m t (listed l.closed t);
}
