use Rattle.std.proofs.Common.{◌≡◌}
use Rattle.reply_sheet.proofs.TextLemmas.{Waits}
use Rattle.reply_sheet.specs.ClientText.{clients_text}
use Rattle.reply_sheet.proofs.ClientTextLemmas.{text_to}
use Rattle.reply_sheet.proofs.clients.write_clients.Given as goal

abbrev pub invariant-loop-client : goal.invariant-loop-client
invariant-loop-client g l = record {
  waits : Waits (g.O.Sink.held l.fn.out) (g.O.Sink.held l.out) l.buffer.held (clients_text l.names l.arrivals l.replies l.client);
  well : g.O.Sink.faults l.out ≡ g.O.Sink.faults l.fn.out;
}

abbrev pub invariant-loop-i : goal.invariant-loop-i
invariant-loop-i g l = record {
  waits : Waits (g.O.Sink.held l.fn.out) (g.O.Sink.held l.out) l.buffer.held (text_to l.names l.arrivals l.replies l.client l.i);
  well : g.O.Sink.faults l.out ≡ g.O.Sink.faults l.fn.out;
}
