use Rattle.std.proofs.Common.{sym, subst, [], ◌∷◌}
use Rattle.tests_traces.specs.Lines.{two_names}
use Rattle.tests_traces.proofs.Written.{no_name, table_there}
use Rattle.trace_lines.specs.EventText.{CanWriteOp, CanWriteSymbol}
use Rattle.tests_traces.proofs.event_lines.delay.Goals as goal

pub returns : goal.returns
returns c = (subst (CanWriteOp two_names (0 ∷ [])) (sym c.new.ensures) (record { table = table_there; key = tt; value = tt }), subst (CanWriteSymbol two_names (0 ∷ [])) (sym c.new-2.ensures) (record { table = table_there; key = no_name; value = tt }))
