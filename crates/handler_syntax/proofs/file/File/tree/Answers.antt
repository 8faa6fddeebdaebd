use Rattle.std.proofs.Common.{subst}
use Rattle.handler_syntax.specs.Keeps.{IsKept}
use Rattle.handler_syntax.proofs.Bounded.{keeps_bounds}
use Rattle.handler_syntax.proofs.file.File.tree.Goals as goal

pub returns-clause-bounds : goal.returns-clause-bounds
returns-clause-bounds c =
    let kept : IsKept c.args.self.now = subst IsKept c.self.view_is c.self.invariant in
    keeps_bounds kept.limits.0 c.args.self.now kept.limits.1 kept.places

pub returns-clause-rise : goal.returns-clause-rise
returns-clause-rise c =
    let kept : IsKept c.args.self.now = subst IsKept c.self.view_is c.self.invariant in
    kept.rise
