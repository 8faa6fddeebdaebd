use Rattle.std.proofs.Common.{◌+◌, ◌≡◌, drop}
use Rattle.session_journal.specs.Opening.{entries_of}
use Rattle.hall_rule.specs.Filling.{count_in}
use Rattle.session_hall.proofs.filling.count_entries.Given as goal

-- what is counted, and what is still to be counted
abbrev pub invariant-loop-i : goal.invariant-loop-i
invariant-loop-i g l =
    l.count + count_in l.shards l.shard (drop l.i (entries_of (g.S.Script.meaning l.script).opened l.table))
    ≡ count_in l.shards l.shard (entries_of (g.S.Script.meaning l.script).opened l.table)
