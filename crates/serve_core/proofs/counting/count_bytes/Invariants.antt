use Rattle.std.proofs.Common.{◌≡◌, ◌≤◌, ◌*◌, take, length}
use Rattle.session_values.specs.ReplyText.{reply_text}
use Rattle.serve_core.proofs.counting.count_bytes.Given as goal

abbrev pub invariant-loop-ticket : goal.invariant-loop-ticket
invariant-loop-ticket l = record {
  bytes : l.bytes ≡ length (reply_text l.names 0 (take l.ticket l.replies));
  few : l.bytes ≤ 266 * l.ticket;
}
