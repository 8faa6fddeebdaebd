use Rattle.std.proofs.Common.{◌-◌, ◌≡◌, drop}
use Rattle.session_values.specs.Opening.{container_of, entries_of}
use Rattle.shard_tables.specs.Whole.{container_in}
use Rattle.shard_tables.proofs.whole_tables.opened_part.Given as goal

-- the last entries have entered
abbrev pub invariant-loop-done : goal.invariant-loop-done
invariant-loop-done g l = container_in l.part ≡ container_of l.fn.kind (drop (l.len - l.done) (entries_of (g.T.TellsOpening.opened l.told) l.table))
