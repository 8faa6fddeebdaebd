use Rattle.std.proofs.Common.{◌≡◌}
use Rattle.repeated_calls.specs.Repeated.{Called}
use Rattle.repeated_calls.proofs.serving.call_all.Given as goal

abbrev pub invariant-loop-done : goal.invariant-loop-done
invariant-loop-done g l = (g.D.Desk.script l.desk ≡ g.D.Desk.script l.fn.desk) × Called l.times l.op l.list.symbols (g.D.Desk.at l.fn.desk) (g.D.Desk.at l.desk) l.done
