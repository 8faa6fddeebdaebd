use Rattle.std.proofs.Common.{◌≡◌, sym, ap, ◌∙◌, cond, true, not, subst}
use Rattle.std.specs.declared.cmp.Ordering.{Ordering}
use Rattle.std.specs.FinSet as set
use Rattle.std.specs.List.{list_any}
use Rattle.std.specs.BTreeMap.{is_at}
use Rattle.session_values.specs.declared.value.Value.{Value}
use Rattle.plain_tables.specs.Views.{SetView}
use Rattle.plain_tables.proofs.KeptLemmas.{has_key, one_added, value_cmp-is}
use Rattle.plain_tables.proofs.value_set.ValueSet.add.Goals as goal

pub returns-clause-new : goal.returns-clause-new
returns-clause-new c =
    let ks = c.self.inside.members.keys in
    let found = ap (λ (R : Value → Value → Ordering). list_any (is_at (R c.args.key)) ks) value_cmp-is in
    c.in_ok-insert.ensures.added ∙ ap not (found ∙ sym (has_key ks c.args.key) ∙ ap (λ (s : SetView). set.contains s c.args.key) c.self.view_is)

pub returns-clause-after : goal.returns-clause-after
returns-clause-after c =
    let ks = c.self.inside.members.keys in
    let js = c.insert.new.self.keys in
    one_added ks js c.args.key
    (subst (λ (R : Value → Value → Ordering). (q : Value) → list_any (is_at (R q)) js ≡ cond (is_at (R c.args.key) q) true (list_any (is_at (R q)) ks)) value_cmp-is c.in_ok-insert.ensures.updates.0)
    ∙ ap (λ (s : SetView). set.insert s c.args.key) c.self.view_is
