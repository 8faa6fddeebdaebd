use Rattle.std.proofs.Common.{◌≡◌, ◌<◌, List, length, Some, slice_get, sym, subst}
use Rattle.session_journal.specs.Opening.{Pair}
use Rattle.serve_single.proofs.Whole.{listed_at}
use Rattle.serve_single.proofs.tables.ListingTellsEntries.entry_at.Goals as goal

pub entry-requires : goal.entry-requires
entry-requires c =
    subst (λ (es : List Pair). c.args.i < length es) (listed_at c.args.self.now.parts.now c.args.table c.index-self-table.result c.requires.table) c.requires.entry

pub returns : goal.returns
returns c =
    subst (λ (es : List Pair). slice_get es c.args.i ≡ Some c.entry.result) (sym (listed_at c.args.self.now.parts.now c.args.table c.index-self-table.result c.requires.table)) c.entry.ensures
