use Rattle.std.proofs.Common.{◌≡◌, take}
use Rattle.reply_sheet.proofs.TextLemmas.{Waits}
use Rattle.trace_lines.specs.EventText.{trace_text}
use Rattle.trace_lines.proofs.writing.write_events.Given as goal

abbrev pub invariant-loop-i : goal.invariant-loop-i
invariant-loop-i g l = record {
  waits : Waits (g.O.Sink.held l.fn.out) (g.O.Sink.held l.out) l.buffer.held (trace_text l.names l.tables (take l.i l.events));
  well : g.O.Sink.faults l.out ≡ g.O.Sink.faults l.fn.out;
}
