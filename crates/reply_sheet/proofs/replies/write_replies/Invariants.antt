use Rattle.std.proofs.Common.{◌≡◌, take}
use Rattle.session_values.specs.ReplyText.{reply_text}
use Rattle.reply_sheet.proofs.TextLemmas.{Waits}
use Rattle.reply_sheet.proofs.replies.write_replies.Given as goal

abbrev pub invariant-loop-i : goal.invariant-loop-i
invariant-loop-i g l = record {
  waits : Waits (g.O.Sink.held l.fn.out) (g.O.Sink.held l.out) l.buffer.held (reply_text l.names l.fn.start (take l.i l.replies));
  well : g.O.Sink.faults l.out ≡ g.O.Sink.faults l.fn.out;
}
