-- A client's text is the lines of its tickets.
use Rattle.reply_sheet.proofs.TicketLemmas.{text}
use Rattle.reply_sheet.proofs.laws.text_has_the_tickets.Goals as goal

pub returns : goal.returns
returns c = text
