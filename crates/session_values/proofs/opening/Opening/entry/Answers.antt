use Rattle.std.proofs.Common.{◌≡◌, ◌<◌, List, length, sym, subst, Some, slice_get}
use Rattle.session_values.specs.Opening.{Pair}
use Rattle.session_values.proofs.KeptLemmas.{entries_here}
use Rattle.session_values.proofs.opening.Opening.entry.Goals as goal

pub entry-requires : goal.entry-requires
entry-requires c =
    let at = entries_here c.self.inside.tables.items c.args.self.now c.args.table c.index.result.now c.self.view_is c.requires.table c.index.ensures in
    subst (λ (es : List Pair). c.args.i < length es) (sym at) c.requires.entry

pub returns : goal.returns
returns c =
    let at = entries_here c.self.inside.tables.items c.args.self.now c.args.table c.index.result.now c.self.view_is c.requires.table c.index.ensures in
    subst (λ (es : List Pair). slice_get es c.args.i ≡ Some c.entry.result) at c.entry.ensures
