use Rattle.std.proofs.Common.{◌≡◌, take}
use Rattle.std.specs.List.{filter_map}
use Rattle.waiting_pairs.specs.Steps.{link_of}
use Rattle.waiting_pairs.proofs.links.links_of.Given as goal

abbrev pub invariant-loop-delay : goal.invariant-loop-delay
invariant-loop-delay l = l.links.items ≡ filter_map (link_of l.tickets) (take l.delay-index l.delays)
