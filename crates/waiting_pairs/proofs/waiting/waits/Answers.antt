use Rattle.std.proofs.Common.{[]}
use Rattle.waiting_pairs.specs.Waits.{all_asked, of_holder}
use Rattle.waiting_pairs.proofs.Adding.{adds_gather}
use Rattle.waiting_pairs.proofs.waiting.waits.Goals as goal

pub loop-holder-preserved : goal.loop-holder-preserved
loop-holder-preserved c =
    let one = c.in_ok-add_holder.ensures (all_asked c.args.program.now.file) c.loop-holder.invariant.0 in
    (one.0, adds_gather (of_holder c.args.program.now (all_asked c.args.program.now.file)) c.loop-holder.holder [] c.loop-holder.out.items c.add_holder.new.out.items one.1 c.loop-holder.invariant.1)
