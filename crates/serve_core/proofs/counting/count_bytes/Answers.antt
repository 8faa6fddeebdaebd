use Rattle.std.proofs.Common.{ap, sym, arith, ℕ, List, length}
use Rattle.reply_sheet.proofs.TextLemmas.{no_text}
use Rattle.serve_core.proofs.CountLemmas.{bytes_more}
use Rattle.serve_core.proofs.counting.count_bytes.Goals as goal

pub loop-ticket-init : goal.loop-ticket-init
loop-ticket-init c = record { bytes = sym (ap (λ (t : List ℕ). length t) (no_text c.args.names.now 0)); few = omega arith }

pub loop-ticket-preserved : goal.loop-ticket-preserved
loop-ticket-preserved c =
    let more = bytes_more c.args.names.now c.args.replies.now c.loop-ticket.ticket c.index-replies-ticket.result c.loop-ticket-test.true (sym c.index-replies-ticket.is) in
    let long = ap (λ (t : List ℕ). length t) c.line.ensures in
    record {
      bytes = (let old = c.loop-ticket.invariant.bytes in let len = c.len.ensures.len in omega (arith, old, len, long, more));
      few = (let old = c.loop-ticket.invariant.few in let bound = c.len.ensures.bound in omega (arith, old, bound));
    }
