-- The rounds may be sent to a thread: what they read may be shared, and the gatherer sent.
use mir.Syntax.{of_param}
use denote.Param.Send.{Quiet-if}
use Rattle.handler_machine.proofs.Crossing.{program_sync}
use Rattle.session_hall.proofs.sizes.Sizes.TheSendSync as sizes
use Rattle.session_values.proofs.opening.Opening.TheSendSync as opening
use Rattle.request_files.proofs.clients.ClientRequests.TheSendSync as requests
use Rattle.client_feed.proofs.gatherer.Gatherer.TheSendSync as gatherer
use Rattle.client_feed.proofs.rounds_beside.serve_clients.Goals as goal

pub join-gatherer-requires-send-F : goal.join-gatherer-requires-send-F
join-gatherer-requires-send-F g c κs within =
    record {
      owned = λ x vs vss. (
        tt,
        (
          gatherer.the_send.owned x.0 vss.0,
          (
            (tt, c.type_bounds.sync-R.shared x.1.now x.1.ref_ptr.0 x.1.ref_ptr.1 κs.1.1.1.1.1.1.0),
            (
              (λ v. (tt, ((λ w. (tt, (tt, tt))), tt))),
              (
                (tt, c.type_bounds.sync-G.shared x.3.now x.3.ref_ptr.0 x.3.ref_ptr.1 κs.1.1.1.1.1.1.1.0),
                (
                  (tt, program_sync.shared x.4.now x.4.ref_ptr.0 x.4.ref_ptr.1 κs.1.1.1.1.1.1.1.1.0),
                  (
                    (tt, opening.the_sync.shared x.5.now x.5.ref_ptr.0 x.5.ref_ptr.1 κs.1.1.1.1.1.1.1.1.1.0),
                    (
                      (tt, requests.the_sync.shared x.6.now x.6.ref_ptr.0 x.6.ref_ptr.1 κs.1.1.1.1.1.1.1.1.1.1.0),
                      (sizes.the_send.owned x.7 vss.1.1.1.1.1.1.1.0, tt),
                    ),
                  ),
                ),
              ),
            ),
          ),
        ),
      );
      leaving = λ k. Quiet-if (k (of_param 1)) _ _ (λ x w. (tt, tt)) (λ x w. tt);
    }
