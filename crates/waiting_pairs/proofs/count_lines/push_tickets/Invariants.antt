use Rattle.std.proofs.Common.{◌≡◌, ◌++◌, take, string_bytes}
use Rattle.std.specs.List.{flat_map}
use Rattle.waiting_pairs.specs.CountLines.{ticket_word}
use Rattle.waiting_pairs.proofs.count_lines.push_tickets.Given as goal

abbrev pub invariant-loop-ticket : goal.invariant-loop-ticket
invariant-loop-ticket l = string_bytes l.out ≡ string_bytes l.fn.out ++ flat_map ticket_word (take l.ticket-index l.tickets)
