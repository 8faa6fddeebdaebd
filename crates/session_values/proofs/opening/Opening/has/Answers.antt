use Rattle.std.proofs.Common.{ap, ◌∙◌, List}
use Rattle.session_values.specs.Opening.{Pair, has_key}
use Rattle.session_values.proofs.KeptLemmas.{entries_here}
use Rattle.session_values.proofs.opening.Opening.has.Goals as goal

pub returns : goal.returns
returns c =
    let at = entries_here c.self.inside.tables.items c.args.self.now c.args.table c.index.result.now c.self.view_is c.requires c.index.ensures in
    c.has.ensures ∙ ap (λ (es : List Pair). has_key es c.args.key) at
