-- While numbers are listed: one of each table so far.
use Rattle.std.proofs.Common.{◌≡◌, ◌≤◌, length, vec_capacity}
use Rattle.client_feed.proofs.workload.Workload.tables.Given as goal

abbrev pub invariant-loop-table : goal.invariant-loop-table
invariant-loop-table l = (length l.adds.items ≡ l.table) × (length l.shape.items ≤ vec_capacity l.adds)
