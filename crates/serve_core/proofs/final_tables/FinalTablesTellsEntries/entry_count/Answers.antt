use Rattle.std.proofs.Common.{◌<◌, List, length, sym, ap, ◌∙◌, arith}
use Rattle.std.proofs.lemmas.Option.{get_or_from_slice_get}
use Rattle.session_journal.specs.Opening.{Pair}
use Rattle.serve_core.proofs.FinalLemmas.{final_at, final_long}
use Rattle.serve_core.proofs.final_tables.FinalTablesTellsEntries.entry_count.Goals as goal

pub bounds-self-table : goal.bounds-self-table
bounds-self-table c =
    let t = c.args.self.now in
    omega (arith, c.requires, final_long t.closed.now t.count, t.few)

pub returns : goal.returns
returns c =
    let t = c.args.self.now in
    let lt : c.args.table < t.count = omega (arith, c.requires, final_long t.closed.now t.count) in
    get_or_from_slice_get t.lengths c.args.table _ 0 (t.counted c.args.table lt)
    ∙ ap (λ (es : List Pair). length es) (sym (final_at t.closed.now t.count c.args.table lt))
