use Rattle.std.proofs.Common.{ℕ, ◌+◌, ◌<◌, ◌≤◌, length}
use Rattle.session_journal.specs.Opening.{entries_of}
use Rattle.session_journal.specs.Script.{room}
use Rattle.serve_core.proofs.served.most_entries.Given as goal

abbrev pub invariant-loop-table : goal.invariant-loop-table
invariant-loop-table g l = (t : ℕ) → t < l.table → length (entries_of (g.S.Script.meaning l.script).opened t) + room (g.S.Script.meaning l.script) t ≤ l.most
