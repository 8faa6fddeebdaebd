use Rattle.std.proofs.Common.{◌≡◌, ◌≤◌, take, is_some}
use Rattle.std.specs.List.{count_by}
use Rattle.range_tables.proofs.judging.open_count.Given as goal

abbrev pub invariant-loop-hold : goal.invariant-loop-hold
invariant-loop-hold l = record {
  count : l.count ≡ count_by is_some (take l.hold-index l.holds);
  few : l.count ≤ l.hold-index;
}
