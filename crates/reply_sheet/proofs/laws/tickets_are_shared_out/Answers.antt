-- The tickets of clients rise, and each is of one client.
use Rattle.reply_sheet.proofs.TicketLemmas.{rise, within, one}
use Rattle.reply_sheet.proofs.laws.tickets_are_shared_out.Goals as goal

pub returns : goal.returns
returns c = record { rise = λ client got. rise client 0 got; below = within; one = one }
