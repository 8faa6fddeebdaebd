use Rattle.session_hall.proofs.FoundInHand.{can_place, worked_place}
use Rattle.session_hall.proofs.on_shards.work_found.Goals as goal

pub work_on-requires : goal.work_on-requires
work_on-requires g c = can_place c.args.hands.now.pairs c.args.op.now c.args.found c.in-Place.i c.in-Place.is c.requires.can c.value_mut.result.now c.value_mut.ensures.value

pub returns-in-Place-clause-worked : goal.returns-in-Place-clause-worked
returns-in-Place-clause-worked g c = worked_place c.args.hands.now.pairs c.args.op.now c.args.found c.in-Place.i c.in-Place.is c.requires.can c.value_mut.result.now c.work_on.new.held c.work_on.result c.value_mut.ensures.value c.work_on.ensures
