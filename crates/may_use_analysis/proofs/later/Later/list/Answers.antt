use Rattle.std.proofs.Common.{◌≡◌, ℕ, ◌+◌, ◌-◌, ◌<◌, List, [], length, map, get_or, sym, ap, ◌∙◌, arith}
use Rattle.std.proofs.Math.ListN.{get_or-map}
use Rattle.std.proofs.lemmas.List.{get_or_read, length-map, length-reverse}
use Rattle.symbolic_ops.specs.declared.symbol.Symbol.{Symbol}
use Rattle.may_use_analysis.specs.Numbered.{by_number}
use Rattle.may_use_analysis.specs.PointList.{Counted, list_in}
use Rattle.may_use_analysis.proofs.TopLemmas.{number_at}
use Rattle.may_use_analysis.proofs.later.Later.list.Goals as goal

pub returns : goal.returns
returns c =
    let items = c.self.inside.handlers.items in
    let h = c.args.h in
    let p = c.args.point in
    let lists = c.index-lists.result.now in
    let long : length c.args.self.now ≡ length items = sym (ap length c.self.view_is) ∙ length-map items by_number in
    let within : h < length items = omega arith in
    let at : lists ≡ get_or items h [] = get_or_read items h lists within c.index-lists.ensures [] in
    let seen : get_or c.args.self.now h [] ≡ by_number lists = sym (ap (λ (z : List (List (List Symbol))). get_or z h []) c.self.view_is) ∙ get_or-map by_number items h [] ∙ sym (ap by_number at) in
    let inside : p < length lists = omega (arith, ap length seen, length-reverse (map list_in lists), length-map lists list_in) in
    c.list.ensures
    ∙ ap (λ (n : ℕ). list_in (get_or lists (n - (p + 1)) (Counted 0))) c.len.ensures
    ∙ sym (number_at lists p inside)
    ∙ sym (ap (λ (z : List (List Symbol)). get_or z p []) seen)
