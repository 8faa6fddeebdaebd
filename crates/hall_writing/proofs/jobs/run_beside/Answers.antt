-- The other jobs may be sent to a thread where the script may be.
use mir.Syntax.{of_param}
use denote.Exit.{yes}
use denote.Param.Send.{Quiet-if}
use Rattle.std.proofs.Crossing.{Vec-send}
use Rattle.hall_serving.proofs.Crossing.{hall_sync}
use Rattle.hall_writing.proofs.lane.Lane.TheSendSync as lane
use Rattle.hall_writing.proofs.job.Job.TheSendSync as job
use Rattle.hall_writing.proofs.jobs.run_beside.Goals as goal

pub join-others-requires-send-F : goal.join-others-requires-send-F
join-others-requires-send-F g c κs within =
    let jobs = Vec-send _ (job.the_send _ g.S.Tickets c.type_bounds.send-S) in
    record {
      owned = λ x vs vss. (
        tt,
        (
          (tt, c.type_bounds.sync-R.shared x.0.now x.0.ref_ptr.0 x.0.ref_ptr.1 κs.1.1.1.1.1.1.0),
          (
            (tt, c.type_bounds.sync-S.shared x.1.now x.1.ref_ptr.0 x.1.ref_ptr.1 κs.1.1.1.1.1.1.1.0),
            (
              (tt, (hall_sync _ g.S.Tickets c.type_bounds.send-S).shared x.2.now x.2.ref_ptr.0 x.2.ref_ptr.1 κs.1.1.1.1.1.1.1.1.0),
              (
                (tt, c.type_bounds.sync-G.shared x.3.now x.3.ref_ptr.0 x.3.ref_ptr.1 κs.1.1.1.1.1.1.1.1.1.0),
                (
                  (tt, lane.the_sync.shared x.4.now x.4.ref_ptr.0 x.4.ref_ptr.1 κs.1.1.1.1.1.1.1.1.1.1.0),
                  (jobs.owned x.5 vss.1.1.1.1.1.0, tt),
                ),
              ),
            ),
          ),
        ),
      );
      leaving = λ k. Quiet-if (k (of_param 1)) _ _ (λ x w. (tt, (tt, (tt, (tt, (tt, (jobs.leaving yes x.5 w.1.1.1.1.1.0, tt))))))) (λ x w. tt);
    }
