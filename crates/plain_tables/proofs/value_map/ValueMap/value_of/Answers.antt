use Rattle.std.proofs.Common.{sym, ap, ◌∙◌}
use Rattle.std.specs.declared.cmp.Ordering.{Ordering}
use Rattle.std.specs.FinMap as map
use Rattle.std.specs.Map.{lookup}
use Rattle.std.specs.BTreeMap.{is_at}
use Rattle.session_values.specs.declared.value.Value.{Value}
use Rattle.plain_tables.specs.Views.{MapView}
use Rattle.plain_tables.proofs.KeptLemmas.{get_key, value_cmp-is}
use Rattle.plain_tables.proofs.value_map.ValueMap.value_of.Goals as goal

pub returns : goal.returns
returns c =
    let es = c.self.inside.bound.entries in
    let found = ap (λ (R : Value → Value → Ordering). lookup (is_at (R c.args.key)) es) value_cmp-is in
    c.copied.ensures ∙ c.get.ensures.value ∙ found ∙ sym (get_key es c.args.key) ∙ ap (λ (m : MapView). map.get m c.args.key) c.self.view_is
