use Rattle.std.proofs.Common.{◌≡◌, take}
use Rattle.reply_sheet.proofs.TextLemmas.{Waits}
use Rattle.table_lines.specs.Lines.{lines_of}
use Rattle.table_lines.proofs.dumping.write_lines.Given as goal

abbrev pub invariant-loop-i : goal.invariant-loop-i
invariant-loop-i g l = record {
  waits : Waits (g.O.Sink.held l.fn.out) (g.O.Sink.held l.out) l.buffer.held (lines_of l.names l.table l.kind (take l.i l.entries));
  well : g.O.Sink.faults l.out ≡ g.O.Sink.faults l.fn.out;
}
