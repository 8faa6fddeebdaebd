use Rattle.std.proofs.Common.{sym, ap, ◌∙◌}
use Rattle.std.specs.declared.cmp.Ordering.{Ordering}
use Rattle.std.specs.FinSet as set
use Rattle.std.specs.List.{list_any}
use Rattle.std.specs.BTreeMap.{is_at}
use Rattle.session_values.specs.declared.value.Value.{Value}
use Rattle.plain_tables.specs.Views.{SetView}
use Rattle.plain_tables.proofs.KeptLemmas.{has_key, value_cmp-is}
use Rattle.plain_tables.proofs.value_set.ValueSet.has.Goals as goal

pub returns : goal.returns
returns c =
    let ks = c.self.inside.members.keys in
    let found = ap (λ (R : Value → Value → Ordering). list_any (is_at (R c.args.key)) ks) value_cmp-is in
    c.contains.ensures ∙ found ∙ sym (has_key ks c.args.key) ∙ ap (λ (s : SetView). set.contains s c.args.key) c.self.view_is
