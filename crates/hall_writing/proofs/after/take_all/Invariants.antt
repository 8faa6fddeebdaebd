use Rattle.std.proofs.Common.{◌≡◌, ◌<◌, ℕ}
use Rattle.hall_writing.specs.Lanes.{times}
use Rattle.hall_writing.specs.Ends.{IsEndOf, state_of}
use Rattle.hall_writing.specs.Sheets.{IsKept, Keeps}
use Rattle.hall_writing.proofs.after.take_all.Given as goal

abbrev pub invariant-loop : goal.invariant-loop
invariant-loop g l = record {
  end : IsEndOf l.lane (state_of l.fn.end).known l.end;
  keeps : Keeps (state_of l.fn.end).known l.pending;
  still : (t : ℕ) → IsKept l.fn.pending t → IsKept l.pending t;
  next : l.pending.next ≡ l.fn.pending.next;
  taken : (t : ℕ) → times t (state_of l.fn.end).taken < times t (state_of l.end).taken → IsKept l.pending t;
}
