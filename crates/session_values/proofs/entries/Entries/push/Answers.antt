use Rattle.std.proofs.Common.{◌≡◌, Bool, false, ap, ◌∙◌, sym, subst, List, [], ◌∷◌, ◌++◌}
use Rattle.session_values.specs.declared.value.Value.{Value}
use Rattle.indexmap.specs.IndexMap.{insert_entry}
use Rattle.session_values.specs.Opening.{Pair, has_key}
use Rattle.session_values.proofs.KeyLemmas.{inserted_last, value_eq-is}
use Rattle.session_values.proofs.entries.Entries.push.Goals as goal

pub returns-clause-pushed : goal.returns-clause-pushed
returns-clause-pushed c =
    let es = c.self.inside.pairs.entries in
    let new = subst (λ (l : List Pair). has_key l c.args.key ≡ false) (sym c.self.view_is) c.requires in
    c.in_ok-insert.ensures.entries
    ∙ ap (λ (eq : Value → Value → Bool). insert_entry eq es c.args.key c.args.value) value_eq-is
    ∙ inserted_last es c.args.key c.args.value new
    ∙ ap (λ (l : List Pair). l ++ (c.args.key, c.args.value) ∷ []) c.self.view_is
