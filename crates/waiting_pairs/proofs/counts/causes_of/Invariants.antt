use Rattle.std.proofs.Common.{◌≡◌, map, take}
use Rattle.waiting_pairs.specs.Causes.{cause_of}
use Rattle.waiting_pairs.specs.TraceTold.{handlers_of}
use Rattle.waiting_pairs.proofs.counts.causes_of.Given as goal

abbrev pub invariant-loop-delay : goal.invariant-loop-delay
invariant-loop-delay l = l.found.items ≡ map (cause_of (handlers_of l.requests)) (take l.delay-index l.delays)
