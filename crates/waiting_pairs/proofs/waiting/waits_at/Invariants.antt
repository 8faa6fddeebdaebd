use Rattle.std.proofs.Common.{List, [], take}
use Rattle.std.specs.List.{flat_map}
use Rattle.waiting_pairs.specs.declared.asked.Asked.{Asked}
use Rattle.waiting_pairs.specs.Chosen.{IsKnown}
use Rattle.waiting_pairs.specs.Waits.{Adds, against}
use Rattle.waiting_pairs.proofs.waiting.waits_at.Given as goal

abbrev pub invariant-loop-symbol : goal.invariant-loop-symbol
invariant-loop-symbol l = (asked : List Asked) → IsKnown asked l.fn.known
    → IsKnown asked l.known × Adds (flat_map (against l.holder l.point asked) (take l.symbol-index l.symbols)) [] l.out.items
