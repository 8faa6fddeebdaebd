use Rattle.std.proofs.Common.{◌≡◌, List, [], ap, ◌∙◌}
use Rattle.std.specs.Prelude.{slice_index_or}
use Rattle.symbolic_ops.specs.declared.symbol.Symbol.{Symbol}
use Rattle.may_use_analysis.proofs.heads.Heads.copy_of.Goals as goal

pub returns-in-Some : goal.returns-in-Some
returns-in-Some c =
    let p = c.args.point in
    let at : c.in-Some.kept.now ≡ slice_index_or c.args.self.now p [] = c.in-Some.ensures.lookup.3.1 [] ∙ ap (λ (z : List (List Symbol)). slice_index_or z p []) (c.deref.ensures.value ∙ c.self.view_is) in
    rw at at c.copied.ensures
