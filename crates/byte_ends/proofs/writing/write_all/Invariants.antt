use Rattle.std.proofs.Common.{◌≡◌, ◌≤◌, ◌-◌, [], length, take}
use Rattle.byte_ends.specs.Ends.{Appended}
use Rattle.byte_ends.proofs.writing.write_all.Given as goal

abbrev pub invariant-pieces : goal.invariant-pieces
invariant-pieces g l = record {
  grew : Appended (g.O.Sink.held l.fn.out) (g.O.Sink.held l.out) (take l.at l.bytes);
  still : l.bytes ≡ [] → l.out ≡ l.fn.out;
  within : l.at ≤ length l.bytes;
  well : g.O.Sink.faults l.out ≡ g.O.Sink.faults l.fn.out;
}

abbrev pub decreases-pieces : goal.decreases-pieces
decreases-pieces g l = length l.bytes - l.at
