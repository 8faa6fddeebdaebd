use Rattle.std.proofs.Common.{◌≡◌, ◌<◌, ◌≤◌, take}
use Rattle.declaration_insertion.specs.Facts.{kinds_in}
use Rattle.declaration_insertion.proofs.facts.kinds_named.Given as goal

abbrev pub invariant-loop-i : goal.invariant-loop-i
invariant-loop-i l = record {
  some : 0 < l.count;
  few : l.count ≤ l.i;
  kinds : l.count ≡ kinds_in (take l.i l.list);
}
