use Rattle.std.proofs.Common.{◌<◌, ◌≤◌, ◌*◌, ◌-◌, ◌^◌}
use Rattle.shard_tables.proofs.slot_table.SlotTable.with_room.Given as goal

abbrev pub invariant-loop-bits : goal.invariant-loop-bits
invariant-loop-bits l = record {
  some : 1 ≤ l.bits;
  few : l.bits ≤ 31;
  least : 1 < l.bits → 2 ^ (l.bits - 1) < 2 * l.room;
}

abbrev pub decreases-loop-bits : goal.decreases-loop-bits
decreases-loop-bits l = 31 - l.bits
