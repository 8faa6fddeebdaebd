use Rattle.std.proofs.Common.{◌≡◌, ◌+◌, ◌-◌, ◌≤◌, vec_len}
use Rattle.byte_ends.proofs.EndsLemmas.{Taken}
use Rattle.byte_ends.proofs.reading.read_up_to.Given as goal

abbrev pub invariant-pieces : goal.invariant-pieces
invariant-pieces g l = record {
  taken : Taken (g.I.Source.left l.initial.source) (g.I.Source.left l.source) l.bytes.items;
  well : g.I.Source.faults l.source ≡ g.I.Source.faults l.initial.source;
  bound : vec_len l.bytes ≤ l.initial.most + 1;
}

abbrev pub decreases-pieces : goal.decreases-pieces
decreases-pieces g l = l.initial.most + 1 - vec_len l.bytes
