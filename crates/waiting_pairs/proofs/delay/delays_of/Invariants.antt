use Rattle.std.proofs.Common.{◌≡◌, take}
use Rattle.std.specs.List.{filter_map}
use Rattle.waiting_pairs.specs.TraceDelays.{delay_of}
use Rattle.waiting_pairs.proofs.delay.delays_of.Given as goal

abbrev pub invariant-loop-event : goal.invariant-loop-event
invariant-loop-event l = l.delays.items ≡ filter_map delay_of (take l.event-index l.events)
