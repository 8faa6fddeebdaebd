use denote.Param.Send.{sendable}
use Rattle.handler_machine.proofs.Crossing.{scripts_send, scripts_sync}
use Rattle.serve_core.proofs.lines.serve_ready_lines.Goals as goal

pub serve_and_write-closed-requires-send-S : goal.serve_and_write-closed-requires-send-S
serve_and_write-closed-requires-send-S g c κs within = search (sendable, scripts_send) depth 20

pub serve_and_write-closed-requires-sync-S : goal.serve_and_write-closed-requires-sync-S
serve_and_write-closed-requires-sync-S g c κs within = search (sendable, scripts_sync) depth 20
