use Rattle.std.proofs.Common.{Bool, ap, ◌∙◌, is_some, List}
use Rattle.std.specs.Map.{lookup}
use Rattle.session_values.specs.declared.value.Value.{Value}
use Rattle.session_values.specs.Opening.{Pair, has_key}
use Rattle.session_values.proofs.KeyLemmas.{found_key, value_eq-is}
use Rattle.session_values.proofs.entries.Entries.has.Goals as goal

pub returns : goal.returns
returns c =
    let es = c.self.inside.pairs.entries in
    c.contains_key.ensures
    ∙ ap (λ (eq : Value → Value → Bool). is_some (lookup (eq c.args.key) es)) value_eq-is
    ∙ found_key es c.args.key
    ∙ ap (λ (l : List Pair). has_key l c.args.key) c.self.view_is
