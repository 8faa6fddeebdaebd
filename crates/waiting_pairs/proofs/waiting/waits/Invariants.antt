use Rattle.std.proofs.Common.{[]}
use Rattle.waiting_pairs.specs.Chosen.{IsKnown}
use Rattle.waiting_pairs.specs.Waits.{Adds, all_asked, gather, of_holder}
use Rattle.waiting_pairs.proofs.waiting.waits.Given as goal

abbrev pub invariant-loop-holder : goal.invariant-loop-holder
invariant-loop-holder l = IsKnown (all_asked l.program.file) l.known × Adds (gather (of_holder l.program (all_asked l.program.file)) l.holder) [] l.out.items
