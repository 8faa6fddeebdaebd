use Rattle.std.proofs.Common.{ap}
use Rattle.symbolic_ops.specs.Foresight.{ForesightView}
use Rattle.plain_desk.proofs.Serving.{finish_kept}
use Rattle.plain_desk.proofs.desk.PlainDeskDesk.finish_at.Goals as goal

pub invariant_of-self : goal.invariant_of-self
invariant_of-self g c = finish_kept _ _ _ _ _ _ _ _ _ _ _ _ _ _ _ _ _ c.in-Some.is c.push_reserved.ensures.items (ap (λ (f : ForesightView). f.room) c.instantiate.ensures) c.self.invariant
