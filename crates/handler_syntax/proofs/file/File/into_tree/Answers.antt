use Rattle.handler_syntax.proofs.Bounded.{keeps_bounds}
use Rattle.handler_syntax.proofs.file.File.into_tree.Goals as goal

pub returns-clause-bounds : goal.returns-clause-bounds
returns-clause-bounds c =
    let kept = c.self.invariant in
    keeps_bounds kept.limits.0 c.self.inside.tree kept.limits.1 kept.places
