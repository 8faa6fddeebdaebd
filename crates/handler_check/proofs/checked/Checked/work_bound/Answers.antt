use Rattle.std.proofs.Common.{◌≡◌, ◌∙◌, length, ap, subst, arith}
use Rattle.std.proofs.lemmas.Slice.Zip.{AllZip-long}
use Rattle.syntax_trees.specs.declared.file.File.{File}
use Rattle.check_meaning.specs.Bounds.{work_bound}
use Rattle.syntax_trees.specs.Bounds.{KeepsBounds}
use Rattle.handler_check.specs.Checked.{AreBoundsOf}
use Rattle.handler_check.specs.Checking.{IsAccepted}
use Rattle.handler_check.specs.Resolved.{IsResolved, code_at, table_names}
use Rattle.handler_check.proofs.Codes.{all_within}
use Rattle.handler_check.proofs.Resolving.{bounds_at}
use Rattle.handler_check.proofs.checked.Checked.work_bound.Goals as goal

pub get-requires : goal.get-requires
get-requires c =
    let f = c.self.inside.file in
    let first = AllZip-long (IsResolved (table_names f)) f.handlers c.self.inside.handlers c.self.invariant.resolved in
    let second = AllZip-long AreBoundsOf c.self.inside.handlers c.self.inside.bounds c.self.invariant.counted in
    let view : f ≡ c.args.self.now = c.self.view_is in
    let long : length f.handlers ≡ length (c.args.self.now).handlers = ap (λ (x : File). length x.handlers) view in
    omega arith

pub returns : goal.returns
returns c =
    let f = c.self.inside.file in
    let view : f ≡ c.args.self.now = c.self.view_is in
    let at = bounds_at f c.self.inside.handlers c.self.inside.bounds c.args.h c.get.result.now c.self.invariant.resolved c.self.invariant.counted c.get.ensures in
    let is : (c.get.result.now).work ≡ work_bound (code_at c.args.self.now c.args.h) = at.1 ∙ ap (λ (x : File). work_bound (code_at x c.args.h)) view in
    let held = all_within c.args.self.now (subst IsAccepted view c.self.invariant.accepted) (subst KeepsBounds view c.self.invariant.bounded) c.args.h in
    let few = held.work in
    record { bound = is; few = omega (arith, is, few) }
