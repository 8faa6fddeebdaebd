use denote.Param.Send.{sendable}
use Rattle.hall_serving.proofs.Crossing.{hall_sync}
use Rattle.hall_serving.proofs.jobs.serve_all.Goals as goal

pub for_each_mut-requires-sync-F : goal.for_each_mut-requires-sync-F
for_each_mut-requires-sync-F g c κs within = search (sendable, hall_sync) depth 30
