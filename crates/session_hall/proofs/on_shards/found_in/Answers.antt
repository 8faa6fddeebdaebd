use Rattle.std.proofs.Common.{◌<◌, ap, arith}
use Rattle.session_values.specs.declared.op.Op.{Op}
use Rattle.session_values.specs.Kinds.{arguments}
use Rattle.session_hall.proofs.FoundInHand.{lacks_first}
use Rattle.session_hall.proofs.on_shards.found_in.Goals as goal

pub returns-in-None-place_of : goal.returns-in-None-place_of
returns-in-None-place_of g c =
    let kind = ap (λ (o : Op). arguments o.kind) c.op.view_is in
    let key : 0 < arguments c.args.op.now.kind = omega (arith, c.if-arguments-eq0.false, c.arguments.ensures, kind) in
    lacks_first c.args.hands.now.pairs c.args.op.now c.args.first c.args.many key c.in-None-place_of.ensures
