use Rattle.std.proofs.Common.{◌≡◌, ◌<◌, List, length, get_or, sym, ap, ◌∙◌, arith}
use Rattle.std.specs.Prelude.{Some, slice_get}
use Rattle.std.proofs.Math.ListN.{get_or-map}
use Rattle.std.proofs.lemmas.List.{length-map}
use Rattle.std.proofs.lemmas.Option.{slice_get-get_or}
use Rattle.may_use_analysis.specs.declared.kept.Kept.{Kept}
use Rattle.may_use_analysis.specs.declared.kept.Kept.TheVariants.{Count}
use Rattle.may_use_analysis.specs.PointList.{PointList, Counted, list_in, point_list_of}
use Rattle.may_use_analysis.proofs.kept.PointLists.list.Goals as goal

pub returns : goal.returns
returns c =
    let entries = c.self.inside.entries.items in
    let i = c.args.i in
    let e = get_or entries i (Count 0) in
    let long : length c.args.self.now ≡ length entries = sym (ap length c.self.view_is) ∙ length-map entries (point_list_of entries) in
    let within : i < length entries = omega arith in
    let some : slice_get c.as_slice.result.now i ≡ Some e = ap (λ (z : List Kept). slice_get z i) c.as_slice.ensures.value ∙ slice_get-get_or entries i (Count 0) within in
    c.kept_list.ensures e some
    ∙ ap (λ (z : List Kept). list_in (point_list_of z e)) c.as_slice.ensures.value
    ∙ ap list_in (sym (get_or-map (point_list_of entries) entries i (Count 0)))
    ∙ ap (λ (z : List PointList). list_in (get_or z i (Counted 0))) c.self.view_is
