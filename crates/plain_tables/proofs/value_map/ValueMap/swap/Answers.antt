use Rattle.std.proofs.Common.{◌≡◌, sym, ap, ◌∙◌, cond, Some, unwrap_or, subst}
use Rattle.std.specs.declared.cmp.Ordering.{Ordering}
use Rattle.std.specs.FinMap as map
use Rattle.std.specs.Map.{lookup}
use Rattle.std.specs.BTreeMap.{is_at}
use Rattle.session_values.specs.declared.value.Value.{Value}
use Rattle.session_values.specs.declared.value.Value.TheVariants.{Nil}
use Rattle.plain_tables.specs.Views.{MapView}
use Rattle.plain_tables.proofs.KeptLemmas.{get_key, one_bound, value_cmp-is}
use Rattle.plain_tables.proofs.value_map.ValueMap.swap.Goals as goal

pub returns-clause-reply : goal.returns-clause-reply
returns-clause-reply c =
    let es = c.self.inside.bound.entries in
    let found = ap (λ (R : Value → Value → Ordering). lookup (is_at (R c.args.key)) es) value_cmp-is in
    c.unwrap_or.ensures ∙ ap (λ o. unwrap_or o Nil) (c.in_ok-old.ensures.old ∙ found ∙ sym (get_key es c.args.key) ∙ ap (λ (m : MapView). map.get m c.args.key) c.self.view_is)

pub returns-clause-after : goal.returns-clause-after
returns-clause-after c =
    let es = c.self.inside.bound.entries in
    let fs = c.insert.new.self.entries in
    one_bound es fs c.args.key c.args.value
    (subst (λ (R : Value → Value → Ordering). (q : Value) → lookup (is_at (R q)) fs ≡ cond (is_at (R c.args.key) q) (Some c.args.value) (lookup (is_at (R q)) es)) value_cmp-is c.in_ok-old.ensures.updates.0)
    ∙ ap (λ (m : MapView). map.insert m c.args.key c.args.value) c.self.view_is
