use Rattle.std.proofs.Common.{sym, ap, ◌∙◌, pos, subst, w64}
use Rattle.std.proofs.lemmas.Int.{to_z_pos}
use Rattle.std.specs.declared.cmp.Ordering.{Ordering}
use Rattle.std.specs.List.Sorted.{IsStrictlySortedBy}
use Rattle.std.specs.FinSet as set
use Rattle.session_values.specs.declared.value.Value.{Value}
use Rattle.plain_tables.specs.Views.{SetView}
use Rattle.plain_tables.proofs.KeptLemmas.{len_set, value_cmp-is}
use Rattle.plain_tables.proofs.value_set.ValueSet.count.Goals as goal

pub returns : goal.returns
returns c =
    let ks = c.self.inside.members.keys in
    let ordered = subst (λ (R : Value → Value → Ordering). IsStrictlySortedBy R ks) value_cmp-is c.len.ensures.ordered in
    to_z_pos w64 c.len.result c.len.ensures.small ∙ ap pos (c.len.ensures.len ∙ sym (len_set ks ordered) ∙ ap (λ (s : SetView). set.len s) c.self.view_is)
