-- The next hall opens over what the last left: the tables after its tickets.
use denote.Param.Send.{sendable}
use Rattle.client_feed.proofs.Crossing.{continued_send, continued_sync}
use Rattle.client_feed.proofs.serving.serve_next.Goals as goal

pub serve_over-requires-send-S : goal.serve_over-requires-send-S
serve_over-requires-send-S g c κs within = search (sendable, continued_send) depth 20

pub serve_over-requires-sync-S : goal.serve_over-requires-sync-S
serve_over-requires-sync-S g c κs within = search (sendable, continued_sync) depth 20
