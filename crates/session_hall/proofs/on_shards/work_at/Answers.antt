use Rattle.std.proofs.lemmas.Option.{slice_get_within}
use Rattle.std.proofs.Common.{IsSomeAnd}
use Rattle.session_hall.specs.Working.{CanDo}
use Rattle.session_hall.proofs.ShardsByTurn.{can_here, not_in, worked_here}
use Rattle.session_hall.proofs.on_shards.work_at.Goals as goal

pub unreachable-requires : goal.unreachable-requires
unreachable-requires g c = not_in c.args.hands.now.pairs c.args.turn c.in_default.ensures (λ k. IsSomeAnd k (λ x. CanDo c.args.op.now x)) c.requires.can

pub value_mut-requires : goal.value_mut-requires
value_mut-requires g c = slice_get_within c.args.hands.now.pairs c.in-Some.i c.in-Some.ensures.0 c.in-Some.ensures.1

pub work_on-requires : goal.work_on-requires
work_on-requires g c = can_here c.args.hands.now.pairs c.requires.once c.args.turn c.in-Some.i c.in-Some.ensures c.args.op.now c.value_mut.result.now c.value_mut.ensures.value c.requires.can

pub returns-clause-worked : goal.returns-clause-worked
returns-clause-worked g c =
    worked_here c.args.hands.now.pairs c.requires.once c.args.turn c.in-Some.i c.in-Some.ensures c.args.op.now c.value_mut.result.now c.work_on.new.held c.work_on.result c.value_mut.ensures.value c.work_on.ensures
