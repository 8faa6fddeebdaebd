use denote.Param.Send.{sendable}
use Rattle.handler_machine.proofs.Crossing.{scripts_send, scripts_sync}
use Rattle.client_feed.proofs.serving.serve_first.Goals as goal

pub serve_session-requires-send-S : goal.serve_session-requires-send-S
serve_session-requires-send-S g c κs within = search (sendable, scripts_send) depth 20

pub serve_session-requires-sync-S : goal.serve_session-requires-sync-S
serve_session-requires-sync-S g c κs within = search (sendable, scripts_sync) depth 20
