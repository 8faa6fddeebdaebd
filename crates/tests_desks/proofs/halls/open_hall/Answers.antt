use Rattle.std.proofs.Common.{subst}
use Rattle.std.specs.Prelude.{IfOk}
use Rattle.tests_desks.specs.HallRows.{HasTwo}
use Rattle.tests_desks.proofs.halls.open_hall.Goals as goal

pub returns : goal.returns
returns c = subst (λ s. IfOk c.open_two.result (λ r. HasTwo s r.0 r.1.items)) c.in_ok-script.ensures c.open_two.ensures
