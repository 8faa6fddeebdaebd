use Rattle.std.proofs.Common.{◌≡◌, ℕ, suc, ◌+◌, ◌<◌, ◌==◌, Bool, if◌then◌else◌, List, length, get_or, drop, slice_get, Some, ap, ◌∙◌, arith}
use Rattle.std.proofs.lemmas.List.{drop_more}
use Rattle.std.proofs.lemmas.Option.{slice_get-get_or}
use Rattle.std.proofs.lemmas.Bool.{ne_eqb, eq-eqb}
use Rattle.handler_check.specs.Resolved.{number_in}
use Rattle.handler_check.proofs.resolution.expr.number_in.Goals as goal

-- the number of a name among those from a place on
from_here : (xs : List ℕ) (i name x : ℕ) → i < length xs → slice_get xs i ≡ Some x → number_in (drop i xs) name ≡ (if x == name then 0 else suc (number_in (drop (i + 1) xs) name))
from_here xs i name x l e =
    let same : get_or xs i x ≡ x = (let f = slice_get-get_or xs i x l in cc) in
    ap (λ (ys : List ℕ). number_in ys name) (drop_more xs i x l) ∙ ap (λ (y : ℕ). if y == name then 0 else suc (number_in (drop (i + 1) xs) name)) same

pub returns-then-get-name : goal.returns-then-get-name
returns-then-get-name c =
    let xs = c.args.names.now in
    let i = c.loop-number.number in
    let s = from_here xs i c.args.name c.get.result.now (omega arith) c.get.ensures ∙ ap (λ (b : Bool). if b then 0 else suc (number_in (drop (i + 1) xs) c.args.name)) (eq-eqb _ _ c.if-get-name.true) in
    omega (arith, c.loop-number.invariant, s)

pub loop-number-preserved : goal.loop-number-preserved
loop-number-preserved c =
    let xs = c.args.names.now in
    let i = c.loop-number.number in
    let s = from_here xs i c.args.name c.get.result.now (omega arith) c.get.ensures ∙ ap (λ (b : Bool). if b then 0 else suc (number_in (drop (i + 1) xs) c.args.name)) (ne_eqb _ _ c.if-get-name.false) in
    omega (arith, c.loop-number.invariant, s)
