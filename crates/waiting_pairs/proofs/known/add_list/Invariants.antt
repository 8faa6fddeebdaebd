use Rattle.std.proofs.Common.{◌≡◌, ◌++◌, map, take}
use Rattle.waiting_pairs.specs.Waits.{wait}
use Rattle.waiting_pairs.proofs.known.add_list.Given as goal

abbrev pub invariant-loop-a : goal.invariant-loop-a
invariant-loop-a l = l.out.items ≡ l.fn.out.items ++ map (wait l.holder l.point l.symbol) (take l.a-index l.list)
