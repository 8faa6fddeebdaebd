use Rattle.std.proofs.Common.{get_or, string_bytes}
use Rattle.std.proofs.lemmas.List.{get_or_default}
use Rattle.waiting_pairs.specs.CountLines.{ticket_word}
use Rattle.waiting_pairs.proofs.Mapped.{lines_more}
use Rattle.waiting_pairs.proofs.count_lines.push_tickets.Goals as goal

pub loop-ticket-preserved : goal.loop-ticket-preserved
loop-ticket-preserved c =
    let t = get_or c.args.tickets.now c.loop-ticket.ticket-index 0 in
    lines_more ticket_word c.args.tickets.now c.loop-ticket.ticket-index t (string_bytes c.args.out.now) (string_bytes c.loop-ticket.out) (string_bytes c.push_ticket.new.out) c.loop-ticket-test.true
    (get_or_default c.args.tickets.now c.loop-ticket.ticket-index 0 t c.loop-ticket-test.true) c.in_ok-push_ticket.ensures c.loop-ticket.invariant
