use Rattle.std.proofs.Common.{◌≡◌, ◌<◌, ◌≤◌, ℕ}
use Rattle.session_hall.specs.Names.{script_of}
use Rattle.hall_writing.specs.Jobs.{replies_of}
use Rattle.hall_writing.specs.Sheets.{IsKept, Keeps}
use Rattle.hall_writing.proofs.known.keep_known.Given as goal

abbrev pub invariant-loop-ticket : goal.invariant-loop-ticket
invariant-loop-ticket g l = record {
  keeps : Keeps (replies_of (g.S.Tickets.meaning (script_of l.hall))) l.pending;
  still : (t : ℕ) → IsKept l.fn.pending t → IsKept l.pending t;
  next : l.pending.next ≡ l.fn.pending.next;
  run : (t : ℕ) → l.fn.pending.next ≤ t → t < l.ticket → IsKept l.pending t;
}
