use Rattle.std.proofs.Common.{List, length, sym, ap, ◌∙◌}
use Rattle.session_values.specs.Opening.{Pair}
use Rattle.live_session.proofs.Whole.{listed_at}
use Rattle.live_session.proofs.tables.LiveTablesTellsEntries.entry_count.Goals as goal

pub returns : goal.returns
returns c =
    c.len.ensures.entries
    ∙ ap (λ (es : List Pair). length es) (sym (listed_at c.args.self.now.parts.items c.args.table c.index.result.now c.requires c.index.ensures))
