use Rattle.std.proofs.Common.{◌≡◌, ◌<◌, ◌-◌, ◌^◌, ℕ, false, get_or, map}
use Rattle.session_values.specs.declared.value.Value.TheVariants.{Nil}
use Rattle.session_values.specs.Values.{value_eq}
use Rattle.shard_tables.specs.Slots.{start_by, distance}
use Rattle.shard_tables.proofs.slot_table.SlotTable.seek.Given as goal

-- every slot that was passed holds the place of another key
abbrev pub invariant-loop-key : goal.invariant-loop-key
invariant-loop-key g l = record {
  within : l.slot < 2 ^ l.self.bits;
  passed : (u : ℕ) → u < 2 ^ l.self.bits → distance (2 ^ l.self.bits) (start_by l.self.factor l.key l.self.bits) u < distance (2 ^ l.self.bits) (start_by l.self.factor l.key l.self.bits) l.slot
      → (0 < get_or l.self.slots.items u 0) × (value_eq l.key (get_or (map g.T.Keyed.key_of l.items) (get_or l.self.slots.items u 0 - 1) Nil) ≡ false);
}

abbrev pub decreases-loop-key : goal.decreases-loop-key
decreases-loop-key g l = 2 ^ l.self.bits - distance (2 ^ l.self.bits) (start_by l.self.factor l.key l.self.bits) l.slot
