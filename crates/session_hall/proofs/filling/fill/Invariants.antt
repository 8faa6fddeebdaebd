use Rattle.std.proofs.Common.{◌-◌, ◌≡◌, drop}
use Rattle.session_journal.specs.Opening.{container_of, entries_of}
use Rattle.shard_tables.specs.Parts.{part}
use Rattle.shard_tables.specs.Either.{shard_view}
use Rattle.session_hall.proofs.filling.fill.Given as goal

-- the last entries have entered
abbrev pub invariant-loop-done : goal.invariant-loop-done
invariant-loop-done g l = record {
  container : (shard_view l.part).container ≡ part l.shards l.shard (container_of l.kind (drop (l.len - l.done) (entries_of (g.S.Script.meaning l.script).opened l.table)));
  room : (shard_view l.part).room ≡ (shard_view l.fn.part).room;
}
