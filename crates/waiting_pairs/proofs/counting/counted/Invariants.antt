use Rattle.std.proofs.Common.{◌≡◌, take}
use Rattle.waiting_pairs.specs.Rows.{counted}
use Rattle.waiting_pairs.proofs.counting.counted.Given as goal

abbrev pub invariant-loop-cause : goal.invariant-loop-cause
invariant-loop-cause l = l.found.entries ≡ counted (take l.cause-index l.causes)
