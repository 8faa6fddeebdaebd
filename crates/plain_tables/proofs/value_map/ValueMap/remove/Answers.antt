use Rattle.std.proofs.Common.{◌≡◌, ap, ◌∙◌, cond, None, subst}
use Rattle.std.specs.declared.cmp.Ordering.{Ordering}
use Rattle.std.specs.FinMap as map
use Rattle.std.specs.Map.{lookup}
use Rattle.std.specs.BTreeMap.{is_at}
use Rattle.session_values.specs.declared.value.Value.{Value}
use Rattle.plain_tables.specs.Views.{MapView}
use Rattle.plain_tables.proofs.KeptLemmas.{one_unbound, value_cmp-is}
use Rattle.plain_tables.proofs.value_map.ValueMap.remove.Goals as goal

pub returns : goal.returns
returns c =
    let es = c.self.inside.bound.entries in
    let fs = c.remove.new.self.entries in
    one_unbound es fs c.args.key
    (subst (λ (R : Value → Value → Ordering). (q : Value) → lookup (is_at (R q)) fs ≡ cond (is_at (R c.args.key) q) None (lookup (is_at (R q)) es)) value_cmp-is c.remove.ensures.updates.0)
    ∙ ap (λ (m : MapView). map.remove m c.args.key) c.self.view_is
