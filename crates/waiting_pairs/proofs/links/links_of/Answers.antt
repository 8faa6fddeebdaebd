use Rattle.std.proofs.Common.{arith}
use Rattle.std.proofs.lemmas.Grind.{common_steps}
use Rattle.std.proofs.lemmas.List.Elements.{filter_map-append}
use Rattle.waiting_pairs.proofs.links.links_of.Goals as goal

pub loop-delay-preserved : goal.loop-delay-preserved
loop-delay-preserved c = grind (arith, common_steps, filter_map-append)
