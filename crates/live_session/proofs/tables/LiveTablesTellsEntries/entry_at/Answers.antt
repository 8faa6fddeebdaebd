use Rattle.std.proofs.Common.{◌≡◌, ◌<◌, List, length, Some, slice_get, sym, subst}
use Rattle.session_values.specs.Opening.{Pair}
use Rattle.live_session.proofs.Whole.{listed_at}
use Rattle.live_session.proofs.tables.LiveTablesTellsEntries.entry_at.Goals as goal

pub entry-requires : goal.entry-requires
entry-requires c =
    subst (λ (es : List Pair). c.args.i < length es) (listed_at c.args.self.now.parts.items c.args.table c.index.result.now c.requires.table c.index.ensures) c.requires.entry

pub returns : goal.returns
returns c =
    subst (λ (es : List Pair). slice_get es c.args.i ≡ Some c.entry.result) (sym (listed_at c.args.self.now.parts.items c.args.table c.index.result.now c.requires.table c.index.ensures)) c.entry.ensures
