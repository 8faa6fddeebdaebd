use Rattle.std.proofs.Common.{Some, ap, sym}
use Rattle.byte_ends.specs.Changes.{change}
use Rattle.foresight_c.specs.declared.text_store.TextStore.{TextStore}
use Rattle.foresight_c.proofs.Serving.{dumped_is}
use Rattle.foresight_c.proofs.sessions.dump_of.Goals as goal

pub returns : goal.returns
returns c =
    dumped_is {O = TextStore} c.args.session.now _ _ _ _ _ _ _ (change (λ (s : TextStore). Some s.bytes.items) (λ (s : TextStore). s.faults) c.new-store.result c.dump-dumped.new.out) (ap Some c.new-store.ensures.bytes) (ap Some (sym c.bytes.ensures)) c.dump-dumped.result _ c.dump_status-status.ensures c.dump-dumped.ensures c.hand_over.ensures
