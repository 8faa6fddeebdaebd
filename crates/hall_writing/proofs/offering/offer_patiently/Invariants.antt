use Rattle.std.proofs.Common.{◌≡◌}
use Rattle.hall_writing.specs.Ends.{IsEndOf, state_of}
use Rattle.hall_writing.proofs.offering.offer_patiently.Given as goal

abbrev pub invariant-loop : goal.invariant-loop
invariant-loop g l = record {
  end : IsEndOf l.lane (state_of l.fn.end).known l.end;
  still : state_of l.end ≡ state_of l.fn.end;
}
