-- A hall and a lane are shared among threads where the script may be sent to them.
use Rattle.hall_serving.proofs.Crossing.{hall_sync}
use Rattle.hall_writing.proofs.lane.Lane.TheSendSync as lane
use Rattle.hall_writing.proofs.jobs.offer_by.Goals as goal

pub for_each_mut-requires-sync-F : goal.for_each_mut-requires-sync-F
for_each_mut-requires-sync-F g c κs within = record {
  shared = λ x b o κ. (
    (
      ((λ q. tt), c.type_bounds.sync-R.shared x.0.now x.0.ref_ptr.0 x.0.ref_ptr.1 κs.1.1.1.1.1.1.0),
      (
        ((λ q. tt), c.type_bounds.sync-S.shared x.1.now x.1.ref_ptr.0 x.1.ref_ptr.1 κs.1.1.1.1.1.1.1.0),
        (
          ((λ q. tt), (hall_sync _ _ c.type_bounds.send-S).shared x.2.now x.2.ref_ptr.0 x.2.ref_ptr.1 κs.1.1.1.1.1.1.1.1.0),
          (
            ((λ q. tt), c.type_bounds.sync-G.shared x.3.now x.3.ref_ptr.0 x.3.ref_ptr.1 κs.1.1.1.1.1.1.1.1.1.0),
            (((λ q. tt), lane.the_sync.shared x.4.now x.4.ref_ptr.0 x.4.ref_ptr.1 κs.1.1.1.1.1.1.1.1.1.1.0), tt),
          ),
        ),
      ),
    ),
    λ q. tt,
  );
}
