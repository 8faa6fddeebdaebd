use Rattle.std.proofs.Common.{◌≡◌, length, slice_get, Some, ap, subst, arith}
use Rattle.std.proofs.lemmas.Slice.Zip.{AllZip-long}
use Rattle.syntax_trees.specs.declared.file.File.{File}
use Rattle.syntax_trees.specs.declared.file.Handler.{Handler}
use Rattle.syntax_trees.specs.Bounds.{KeepsBounds}
use Rattle.handler_check.specs.Checking.{IsAccepted}
use Rattle.handler_check.specs.Resolved.{IsResolved, table_names}
use Rattle.handler_check.proofs.Codes.{all_within}
use Rattle.handler_check.proofs.Resolving.{IsHandlerAt, handler_at, zip_get}
use Rattle.handler_check.proofs.checked.Checked.handler.Goals as goal

pub get-requires : goal.get-requires
get-requires c =
    let f = c.self.inside.file in
    let same = AllZip-long (IsResolved (table_names f)) f.handlers c.self.inside.handlers c.self.invariant.resolved in
    let view : f ≡ c.args.self.now = c.self.view_is in
    let long : length f.handlers ≡ length (c.args.self.now).handlers = ap (λ (x : File). length x.handlers) view in
    omega arith

pub returns : goal.returns
returns c =
    let f = c.self.inside.file in
    let view : f ≡ c.args.self.now = c.self.view_is in
    let at = subst (λ (x : File). IsHandlerAt x c.args.h c.get.result.now) view (handler_at f c.self.inside.handlers c.args.h c.get.result.now c.self.invariant.resolved c.get.ensures) in
    record {
      resolved = λ source is. subst (λ (x : File). (source : Handler) → slice_get x.handlers c.args.h ≡ Some source → IsResolved (table_names x) source c.get.result.now) view
          (λ source is. zip_get (IsResolved (table_names f)) f.handlers c.self.inside.handlers c.args.h source c.get.result.now c.self.invariant.resolved is c.get.ensures) source is;
      body = at.body;
      points = at.points;
      params = at.params;
      within = all_within c.args.self.now (subst IsAccepted view c.self.invariant.accepted) (subst KeepsBounds view c.self.invariant.bounded) c.args.h;
    }
