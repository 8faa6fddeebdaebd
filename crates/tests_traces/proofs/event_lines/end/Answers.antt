use Rattle.std.proofs.Common.{sym, subst}
use Rattle.tests_traces.specs.Lines.{two_names}
use Rattle.tests_traces.proofs.Written.{symbol_there}
use Rattle.trace_lines.specs.EventText.{CanWriteReply}
use Rattle.tests_traces.proofs.event_lines.end.Goals as goal

pub returns : goal.returns
returns c = subst (CanWriteReply two_names) (sym c.new.ensures) (tt, (symbol_there, tt))
