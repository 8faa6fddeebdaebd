use Rattle.std.proofs.Common.{◌≡◌, ◌-◌, ◌^◌, map}
use Rattle.std.specs.List.{swap_remove}
use Rattle.session_values.specs.declared.value.Value.TheVariants.{Nil}
use Rattle.shard_tables.specs.Slots.{distance}
use Rattle.shard_tables.proofs.Freeing.{IsFreeing}
use Rattle.shard_tables.proofs.slot_table.SlotTable.free.Given as goal

abbrev pub invariant-loop-held : goal.invariant-loop-held
invariant-loop-held g l = record {
  bits : l.self.bits ≡ l.fn.self.bits;
  factor : l.self.factor ≡ l.fn.self.factor;
  freeing : IsFreeing l.fn.self.factor l.self.bits (swap_remove (map g.T.Keyed.key_of l.items) l.place Nil) l.slot l.self.slots.items l.hole l.next;
}

abbrev pub decreases-loop-held : goal.decreases-loop-held
decreases-loop-held g l = 2 ^ l.self.bits - distance (2 ^ l.self.bits) l.slot l.next
