use Rattle.std.proofs.Common.{sym}
use Rattle.live_session.proofs.Received.{not_fine}
use Rattle.live_session.proofs.receiving.read_arguments.Goals as goal

pub returns-in-Some-clause-unread : goal.returns-in-Some-clause-unread
returns-in-Some-clause-unread c = not_fine c.args.names.now c.args.most c.args.arguments.now c.in-Some.why (sym c.in-Some.ensures.fault)
