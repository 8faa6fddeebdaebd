use Rattle.serve_reading.specs.Resolved.{code_at}
use Rattle.waiting_pairs.specs.Waits.{operations}
use Rattle.waiting_pairs.proofs.Operations.{asked_more}
use Rattle.waiting_pairs.proofs.asked.asked_of.Goals as goal

pub loop-h-preserved : goal.loop-h-preserved
loop-h-preserved c = asked_more (λ h. operations h (code_at c.args.program.now.file h)) c.loop-h.h c.loop-h.out.items c.add_handler.new.out.items c.loop-h.invariant c.in_ok-add_handler.ensures
