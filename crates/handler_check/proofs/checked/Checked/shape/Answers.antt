use Rattle.std.proofs.Common.{◌≡◌, rules}
use Rattle.handler_check.specs.Resolved.{shape_of}
use Rattle.handler_check.proofs.FewTables.{few_kinds}
use Rattle.handler_check.proofs.checked.Checked.shape.Goals as goal

pub returns-clause-few : goal.returns-clause-few
returns-clause-few c =
    let kinds : c.in_ok-kinds.kinds.items ≡ shape_of c.self.inside.file = search rules in
    few_kinds c.self.inside.file c.in_ok-kinds.kinds.items c.self.invariant.accepted kinds
