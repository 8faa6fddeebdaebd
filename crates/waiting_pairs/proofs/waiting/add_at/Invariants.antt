use Rattle.std.proofs.Common.{◌≡◌, ◌++◌, map, take}
use Rattle.waiting_pairs.specs.Again.{moved_to}
use Rattle.waiting_pairs.proofs.waiting.add_at.Given as goal

abbrev pub invariant-loop-wait : goal.invariant-loop-wait
invariant-loop-wait l = l.out.items ≡ l.fn.out.items ++ map (moved_to l.point) (take l.wait-index l.waits)
