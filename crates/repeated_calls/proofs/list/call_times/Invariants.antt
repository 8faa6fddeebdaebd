use Rattle.std.proofs.Common.{◌≡◌, ◌-◌}
use Rattle.session_journal.specs.Lists.{with_last}
use Rattle.repeated_calls.specs.Repeated.{repeated}
use Rattle.repeated_calls.proofs.list.call_times.Given as goal

abbrev pub invariant-loop-done : goal.invariant-loop-done
invariant-loop-done l = l.list ≡ record {
  shape = l.fn.list.shape;
  tickets = with_last l.fn.list.tickets (repeated l.done l.op);
  tickets_left = l.fn.list.tickets_left;
  calls_left = l.fn.list.calls_left - l.done;
  symbols_left = l.fn.list.symbols_left - l.done;
}
