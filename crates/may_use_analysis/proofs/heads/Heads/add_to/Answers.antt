use Rattle.std.proofs.Common.{◌≡◌, ◌↔◌, ◌⊎◌, List, [], Contains, subst, ap, ◌∙◌}
use Rattle.std.specs.Prelude.{slice_index_or}
use Rattle.symbolic_ops.specs.declared.symbol.Symbol.{Symbol}
use Rattle.may_use_analysis.proofs.heads.Heads.add_to.Goals as goal

pub returns-in_ok-join-in-Some : goal.returns-in_ok-join-in-Some
returns-in_ok-join-in-Some c =
    let p = c.args.point in
    let lookup = c.in-Some.ensures.lookup in
    let at : c.in-Some.kept.now ≡ slice_index_or c.args.self.now p [] = lookup.3.1 [] ∙ ap (λ (z : List (List Symbol)). slice_index_or z p []) (c.deref.ensures.value ∙ c.self.view_is) in
    subst (λ (z : List Symbol). (q : Symbol) → Contains c.join.new.self q ↔ (Contains c.args.head.now q ⊎ Contains z q)) at c.in_ok-join-in-Some.ensures.union
