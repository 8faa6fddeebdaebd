use Rattle.std.proofs.Common.{◌-◌, ◌≡◌, drop}
use Rattle.session_values.specs.Opening.{container_of, entries_of}
use Rattle.shard_tables.specs.Either.{index_in}
use Rattle.shard_tables.specs.Slots.{factor_of}
use Rattle.shard_tables.specs.Whole.{container_in}
use Rattle.live_session.proofs.opening.opened_part.Given as goal

-- the last entries have entered, and searches begin as the seed has it
abbrev pub invariant-loop-done : goal.invariant-loop-done
invariant-loop-done l = record {
  entered : container_in l.part ≡ container_of l.fn.kind (drop (l.len - l.done) (entries_of l.opening l.table));
  factor : (index_in l.part).factor ≡ factor_of l.seed;
}
