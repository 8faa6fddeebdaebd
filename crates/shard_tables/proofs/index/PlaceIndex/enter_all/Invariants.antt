use Rattle.std.proofs.Common.{◌≡◌, take}
use Rattle.std.specs.Prelude.{map}
use Rattle.shard_tables.specs.Slots.{IsIndexOf}
use Rattle.shard_tables.proofs.index.PlaceIndex.enter_all.Given as goal

abbrev pub invariant-loop-done : goal.invariant-loop-done
invariant-loop-done g l = record {
  index : IsIndexOf (map g.T.Keyed.key_of (take l.done l.items)) l.self;
  bits : l.self.bits ≡ l.fn.self.bits;
  factor : l.self.factor ≡ l.fn.self.factor;
}
