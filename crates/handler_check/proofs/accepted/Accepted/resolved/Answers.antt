use Rattle.std.proofs.Common.{◌≡◌, List, ℕ, length, slice_get, Some, ap, ◌∙◌, subst, arith}
use Rattle.syntax_trees.specs.declared.file.File.{File}
use Rattle.syntax_trees.specs.declared.file.Handler.{Handler}
use Rattle.syntax_trees.specs.Bounds.{KeepsBounds}
use Rattle.handler_check.specs.Checking.{IsAccepted}
use Rattle.handler_check.specs.Resolved.{IsResolved, table_names}
use Rattle.handler_check.proofs.Codes.{all_within}
use Rattle.handler_check.proofs.Resolving.{source_at}
use Rattle.handler_check.proofs.accepted.Accepted.resolved.Goals as goal

pub get-handler-requires : goal.get-handler-requires
get-handler-requires c =
    let view : c.self.inside.file ≡ c.args.self.now = c.self.view_is in
    let long : length (c.self.inside.file).handlers ≡ length (c.args.self.now).handlers = ap (λ (x : File). length x.handlers) view in
    omega arith

pub returns-in-Ok : goal.returns-in-Ok
returns-in-Ok c =
    let f = c.args.self.now in
    let h = c.args.h in
    let view : c.self.inside.file ≡ f = c.self.view_is in
    let kept = c.self.invariant.kept in
    let source = c.get-handler.result.now in
    let there : slice_get f.handlers h ≡ Some source = subst (λ (x : File). slice_get x.handlers h ≡ Some source) view c.get-handler.ensures in
    let is : IsResolved (table_names f) source c.in-Ok.c = subst (λ (ts : List ℕ). IsResolved ts source c.in-Ok.c) (c.self.invariant.names ∙ ap table_names view) c.in-Ok.ensures.handler in
    record {
      resolved = λ other at. (let same : source ≡ other = cc in subst (λ (z : Handler). IsResolved (table_names f) z c.in-Ok.c) same is);
      body = (source_at f h c.in-Ok.c source there is).body;
      within = all_within f (subst IsAccepted view kept.accepted) (subst KeepsBounds view kept.bounded) h;
    }

pub returns-in-Err-clause-within : goal.returns-in-Err-clause-within
returns-in-Err-clause-within c =
    let kept = c.self.invariant.kept in
    all_within c.args.self.now (subst IsAccepted c.self.view_is kept.accepted) (subst KeepsBounds c.self.view_is kept.bounded) c.args.h
