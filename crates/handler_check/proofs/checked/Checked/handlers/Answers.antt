use Rattle.std.proofs.Common.{◌≡◌, length, ap, arith}
use Rattle.syntax_trees.specs.declared.file.File.{File}
use Rattle.handler_check.proofs.Fine.{few_handlers}
use Rattle.handler_check.proofs.checked.Checked.handlers.Goals as goal

pub returns-clause-few : goal.returns-clause-few
returns-clause-few c =
    let f = c.self.inside.file in
    let few = few_handlers f c.self.invariant.accepted.keeps in
    let view : f ≡ c.args.self.now = c.self.view_is in
    let long : length f.handlers ≡ length (c.args.self.now).handlers = ap (λ (x : File). length x.handlers) view in
    let count = c.len.ensures in
    omega (arith, few, long, count)
