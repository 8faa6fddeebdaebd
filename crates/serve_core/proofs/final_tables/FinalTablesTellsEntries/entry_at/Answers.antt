use Rattle.std.proofs.Common.{◌≡◌, ◌<◌, List, length, Some, slice_get, sym, subst, arith}
use Rattle.session_journal.specs.Opening.{Pair}
use Rattle.serve_core.proofs.FinalLemmas.{final_at, final_long, shard_within}
use Rattle.serve_core.proofs.final_tables.FinalTablesTellsEntries.entry_at.Goals as goal

pub entry-requires-clause-table : goal.entry-requires-clause-table
entry-requires-clause-table c =
    let t = c.args.self.now in
    shard_within c.args.table t.count t.closed.now.shards (length t.closed.now.parts) (omega (arith, c.requires.table, final_long t.closed.now t.count)) t.some t.parts

pub entry-requires-clause-entry : goal.entry-requires-clause-entry
entry-requires-clause-entry c =
    let t = c.args.self.now in
    subst (λ (es : List Pair). c.args.i < length es) (final_at t.closed.now t.count c.args.table (omega (arith, c.requires.table, final_long t.closed.now t.count))) c.requires.entry

pub returns : goal.returns
returns c =
    let t = c.args.self.now in
    subst (λ (es : List Pair). slice_get es c.args.i ≡ Some c.entry.result) (sym (final_at t.closed.now t.count c.args.table (omega (arith, c.requires.table, final_long t.closed.now t.count)))) c.entry.ensures
