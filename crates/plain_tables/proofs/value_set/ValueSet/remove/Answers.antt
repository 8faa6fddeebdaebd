use Rattle.std.proofs.Common.{◌≡◌, ap, ◌∙◌, cond, false, subst}
use Rattle.std.specs.declared.cmp.Ordering.{Ordering}
use Rattle.std.specs.FinSet as set
use Rattle.std.specs.List.{list_any}
use Rattle.std.specs.BTreeMap.{is_at}
use Rattle.session_values.specs.declared.value.Value.{Value}
use Rattle.plain_tables.specs.Views.{SetView}
use Rattle.plain_tables.proofs.KeptLemmas.{one_dropped, value_cmp-is}
use Rattle.plain_tables.proofs.value_set.ValueSet.remove.Goals as goal

pub returns : goal.returns
returns c =
    let ks = c.self.inside.members.keys in
    let js = c.remove.new.self.keys in
    one_dropped ks js c.args.key
    (subst (λ (R : Value → Value → Ordering). (q : Value) → list_any (is_at (R q)) js ≡ cond (is_at (R c.args.key) q) false (list_any (is_at (R q)) ks)) value_cmp-is c.remove.ensures.updates.0)
    ∙ ap (λ (s : SetView). set.remove s c.args.key) c.self.view_is
