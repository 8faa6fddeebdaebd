use Rattle.std.proofs.Common.{arith}
use Rattle.waiting_pairs.proofs.CountLemmas.{handled, unhandled}
use Rattle.waiting_pairs.proofs.counts.handler_of.Goals as goal

pub returns-then-ticket-len : goal.returns-then-ticket-len
returns-then-ticket-len c = handled c.args.requests.now c.args.ticket c.handler.result (omega arith) c.handler.ensures

pub returns-else-ticket-len : goal.returns-else-ticket-len
returns-else-ticket-len c = unhandled c.args.requests.now c.args.ticket (omega arith)
