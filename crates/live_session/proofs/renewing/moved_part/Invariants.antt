use Rattle.std.proofs.Common.{◌-◌, ◌≡◌, drop}
use Rattle.std.specs.List.{AllByRecursion}
use Rattle.session_values.specs.Opening.{IsPair, container_of}
use Rattle.session_values.specs.Tables.{kind_of}
use Rattle.shard_tables.specs.Either.{entries_in, index_in}
use Rattle.shard_tables.specs.Slots.{factor_of}
use Rattle.shard_tables.specs.Whole.{container_in}
use Rattle.live_session.specs.Moving.{moved_entries, place_in}
use Rattle.live_session.proofs.renewing.moved_part.Given as goal

-- the last entries have entered, under their new names
abbrev pub invariant-loop-done : goal.invariant-loop-done
invariant-loop-done l = record {
  entered : container_in l.new ≡ container_of (kind_of (container_in l.part)) (drop (l.len - l.done) (moved_entries (place_in l.places) (entries_in l.part)));
  pairs : AllByRecursion IsPair (drop (l.len - l.done) (moved_entries (place_in l.places) (entries_in l.part)));
  factor : (index_in l.new).factor ≡ factor_of l.seed;
}
