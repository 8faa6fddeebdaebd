use Rattle.std.proofs.Common.{sym, ap, ◌∙◌, pos, subst, w64}
use Rattle.std.proofs.lemmas.Int.{to_z_pos}
use Rattle.std.specs.declared.cmp.Ordering.{Ordering}
use Rattle.std.specs.List.Sorted.{IsStrictlySortedBy}
use Rattle.std.specs.Map.{keys_of}
use Rattle.std.specs.FinMap as map
use Rattle.session_values.specs.declared.value.Value.{Value}
use Rattle.plain_tables.specs.Views.{MapView}
use Rattle.plain_tables.proofs.KeptLemmas.{len_map, value_cmp-is}
use Rattle.plain_tables.proofs.value_map.ValueMap.size.Goals as goal

pub returns : goal.returns
returns c =
    let es = c.self.inside.bound.entries in
    let ordered = subst (λ (R : Value → Value → Ordering). IsStrictlySortedBy R (keys_of es)) value_cmp-is c.len.ensures.ordered in
    to_z_pos w64 c.len.result c.len.ensures.small ∙ ap pos (c.len.ensures.len ∙ sym (len_map es ordered) ∙ ap (λ (m : MapView). map.len m) c.self.view_is)
