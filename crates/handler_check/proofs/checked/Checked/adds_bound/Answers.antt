use Rattle.std.proofs.Common.{◌≡◌, ◌∙◌, List, min, ap}
use Rattle.check_meaning.specs.declared.tree.CheckedStmt.{CheckedStmt}
use Rattle.check_meaning.specs.Bounds.{bound, adding}
use Rattle.check_meaning.specs.Code.{Code, block_code}
use Rattle.handler_check.specs.Resolved.{code_at}
use Rattle.handler_check.proofs.Within.{adds_exact}
use Rattle.handler_check.proofs.checked.Checked.adds_bound.Goals as goal

pub returns : goal.returns
returns c =
    let known = c.handler-handler.ensures in
    let code : Code = code_at c.args.self.now c.args.h in
    let is : block_code c.as_slice.result.now ≡ code = ap (λ (x : List CheckedStmt). block_code x) c.as_slice.ensures ∙ known.body in
    let exact = adds_exact c.args.table code c.count_calls.result known.within.calls (c.count_calls.ensures ∙ ap (λ (x : Code). min (bound (adding c.args.table) x) 4294967295) is) in
    record { bound = exact.0; few = exact.1 }
