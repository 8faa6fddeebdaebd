use Rattle.std.proofs.Common.{ℕ, ◌+◌, length, arith}
use Rattle.session_journal.specs.Opening.{entries_of}
use Rattle.session_journal.specs.Script.{Meaning, room}
use Rattle.serve_core.proofs.FinalLemmas.{most_more}
use Rattle.serve_core.proofs.served.most_entries.Goals as goal

pub loop-table-preserved : goal.loop-table-preserved
loop-table-preserved g c =
    let m : Meaning = g.S.Script.meaning c.args.script.now in
    let before = c.opening_len.ensures in
    let added = c.room.ensures in
    let old = c.larger-most.ensures.first in
    let largest = c.larger-most.ensures.second in
    most_more (λ (t : ℕ). length (entries_of m.opened t) + room m t) c.loop-table.table c.loop-table.most c.larger-most.result old (omega (arith, before, added, largest)) c.loop-table.invariant
