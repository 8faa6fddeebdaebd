-- The tickets of requests that arrived in order.
use Rattle.reply_sheet.proofs.TicketLemmas.{many, each}
use Rattle.reply_sheet.proofs.laws.tickets_are_in_order.Goals as goal

pub returns : goal.returns
returns c = record { many = many; each = each }
