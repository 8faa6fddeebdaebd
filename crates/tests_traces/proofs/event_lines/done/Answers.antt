use Rattle.std.proofs.Common.{sym, subst, [], ◌∷◌}
use Rattle.tests_traces.specs.Lines.{two_names}
use Rattle.tests_traces.proofs.Written.{symbol_there, table_there}
use Rattle.trace_lines.specs.EventText.{CanWriteOp}
use Rattle.tests_traces.proofs.event_lines.done.Goals as goal

pub returns : goal.returns
returns c = (subst (CanWriteOp two_names (0 ∷ [])) (sym c.new.ensures) (record { table = table_there; key = symbol_there; value = tt }), tt)
