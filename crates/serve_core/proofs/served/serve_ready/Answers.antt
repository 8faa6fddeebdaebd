use denote.Param.Send.{sendable}
use Rattle.handler_machine.proofs.Crossing.{scripts_send, scripts_sync}
use Rattle.serve_core.proofs.served.serve_ready.Goals as goal

pub serve_session-closed-requires-send-S : goal.serve_session-closed-requires-send-S
serve_session-closed-requires-send-S g c κs within = search (sendable, scripts_send) depth 20

pub serve_session-closed-requires-sync-S : goal.serve_session-closed-requires-sync-S
serve_session-closed-requires-sync-S g c κs within = search (sendable, scripts_sync) depth 20
