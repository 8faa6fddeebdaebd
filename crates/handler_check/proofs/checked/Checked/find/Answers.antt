use Rattle.std.proofs.Common.{◌≡◌, ℕ, ◌==◌, slice_get, Some, None, subst, arith}
use Rattle.std.proofs.lemmas.Option.{slice_get_within}
use Rattle.std.specs.List.{position}
use Rattle.syntax_trees.specs.declared.file.File.{File}
use Rattle.syntax_trees.specs.declared.file.Handler.{Handler}
use Rattle.handler_check.proofs.Finding.{found_first, found_none}
use Rattle.handler_check.proofs.checked.Checked.find.Goals as goal

pub returns-then-handler-name-clause-index : goal.returns-then-handler-name-clause-index
returns-then-handler-name-clause-index c =
    let f = c.self.inside.file in
    let view : f ≡ c.args.self.now = c.self.view_is in
    let i = c.loop-h.h in
    let h = c.get-handler.result.now in
    subst (λ (x : File). Some i ≡ position (λ (source : Handler). source.name == c.args.name) x.handlers) view
    (found_first f.handlers c.args.name i h (slice_get_within f.handlers i h c.get-handler.ensures) c.loop-h.invariant c.get-handler.ensures c.if-handler-name.true)

pub returns-clause-none : goal.returns-clause-none
returns-clause-none c =
    let f = c.self.inside.file in
    let view : f ≡ c.args.self.now = c.self.view_is in
    let count = c.len-h-end.ensures in
    subst (λ (x : File). (k : ℕ) (source : Handler) → slice_get x.handlers k ≡ Some source → source.name ≡ c.args.name → ⊥) view
    (λ k source e. c.loop-h.invariant k source (let l = slice_get_within f.handlers k source e in omega (arith, l, count, c.loop-h-test.false)) e)

pub returns-clause-index : goal.returns-clause-index
returns-clause-index c =
    let f = c.self.inside.file in
    let view : f ≡ c.args.self.now = c.self.view_is in
    let count = c.len-h-end.ensures in
    subst (λ (x : File). None ≡ position (λ (source : Handler). source.name == c.args.name) x.handlers) view
    (found_none f.handlers c.args.name (λ k source e. c.loop-h.invariant k source (let l = slice_get_within f.handlers k source e in omega (arith, l, count, c.loop-h-test.false)) e))
