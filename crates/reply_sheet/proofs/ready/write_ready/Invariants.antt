-- While lines are gathered: from the next ticket at first to the one that is next now.
use Rattle.std.proofs.Common.{◌≡◌, length}
use Rattle.reply_sheet.proofs.ReadyLemmas.{Reached}
use Rattle.reply_sheet.proofs.ready.write_ready.Given as goal

abbrev pub invariant-loop-ticket : goal.invariant-loop-ticket
invariant-loop-ticket g l = record {
  reached : Reached l.names (g.O.Sink.held l.fn.out) (g.O.Sink.held l.out) l.buffer.held l.fn.pending.next l.pending.next l.fn.pending.waiting l.pending.waiting;
  well : g.O.Sink.faults l.out ≡ g.O.Sink.faults l.fn.out;
}

abbrev pub decreases-loop-ticket : goal.decreases-loop-ticket
decreases-loop-ticket g l = length l.pending.waiting
