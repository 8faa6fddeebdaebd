use Rattle.std.proofs.Common.{List, length, sym, ap, ◌∙◌}
use Rattle.session_journal.specs.Opening.{Pair}
use Rattle.serve_single.proofs.Whole.{listed_at}
use Rattle.serve_single.proofs.tables.ListingTellsEntries.entry_count.Goals as goal

pub returns : goal.returns
returns c =
    c.len.ensures.entries
    ∙ ap (λ (es : List Pair). length es) (sym (listed_at c.args.self.now.parts.now c.args.table c.index-self-table.result c.requires))
