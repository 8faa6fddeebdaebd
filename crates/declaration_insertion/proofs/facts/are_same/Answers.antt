use Rattle.std.proofs.Common.{◌≡◌, ◌<◌, List, [], ◌∷◌, ◌++◌, length, take, get_or, sym, ap, ◌∙◌, rules}
use Rattle.std.proofs.lemmas.List.{take_more}
use Rattle.symbolic_ops.specs.declared.symbol.Symbol.{Symbol}
use Rattle.may_use_analysis.proofs.Sorting.{eq_exact}
use Rattle.declaration_insertion.proofs.facts.are_same.Goals as goal

pub loop-i-preserved : goal.loop-i-preserved
loop-i-preserved c =
    let a = c.args.a.now in
    let b = c.args.b.now in
    let i = c.loop-i.i in
    let x = c.index-a-i.result in
    let y = c.index-b-i.result in
    let same : x ≡ y = eq_exact x y (sym c.is_same.ensures ∙ c.if-not-is_same.false) in
    let within : i < length b = search rules in
    let element : get_or a i x ≡ get_or b i y = sym c.index-a-i.is ∙ same ∙ c.index-b-i.is in
    take_more a i x c.loop-i-test.true
    ∙ ap (λ (z : List Symbol). z ++ get_or a i x ∷ []) c.loop-i.invariant
    ∙ ap (λ (z : Symbol). take i b ++ z ∷ []) element
    ∙ sym (take_more b i y within)
