use Rattle.std.proofs.Common.{List, [], ◌∷◌, ◌++◌, length, subst, ap, ◌∙◌}
use Rattle.may_use_analysis.specs.declared.kept.Kept.{Kept}
use Rattle.may_use_analysis.specs.PointList.{PointList, IsPointListOf, RefersBack, point_list_of}
use Rattle.may_use_analysis.proofs.KeptLemmas.{pushed}
use Rattle.may_use_analysis.proofs.kept.PointLists.keep.Goals as goal

pub returns : goal.returns
returns c =
    let entries = c.self.inside.entries.items in
    let e = c.in_ok-entry.entry in
    let back = subst (λ (z : List Kept). RefersBack (length z) e) c.as_slice.ensures.value c.in_ok-entry.ensures.back in
    (point_list_of entries e, subst (λ (z : List Kept). IsPointListOf c.args.list.now (point_list_of z e)) c.as_slice.ensures.value c.in_ok-entry.ensures.stored, pushed entries c.push.new.self.items e c.in_ok-push.ensures.items c.self.invariant back ∙ ap (λ (z : List PointList). z ++ point_list_of entries e ∷ []) c.self.view_is)
