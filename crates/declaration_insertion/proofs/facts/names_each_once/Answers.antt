use Rattle.std.proofs.Common.{◌∷◌, ◌++◌, [], List, take, sym, ap, ◌∙◌, subst}
use Rattle.std.proofs.lemmas.List.{take_more}
use Rattle.symbolic_ops.specs.declared.symbol.Symbol.{Symbol}
use Rattle.declaration_insertion.specs.Facts.{NamesEachOnce}
use Rattle.declaration_insertion.proofs.FactLemmas.{once_more}
use Rattle.declaration_insertion.proofs.facts.names_each_once.Goals as goal

pub loop-i-preserved : goal.loop-i-preserved
loop-i-preserved c =
    let list = c.args.list.now in
    let i = c.loop-i.i in
    let s = c.index-list-i.result in
    subst (λ (z : List Symbol). NamesEachOnce z) (sym (take_more list i s c.loop-i-test.true ∙ ap (λ (z : Symbol). take i list ++ z ∷ []) (sym c.index-list-i.is))) (once_more (take i list) s c.loop-i.invariant c.if-not-are_others.ensures.other)
