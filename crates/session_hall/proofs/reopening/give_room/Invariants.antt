-- While shards get room: those so far have it, and the others are as they were.
use Rattle.std.proofs.Common.{◌≡◌, ◌<◌, ◌≤◌, ◌/◌, ℕ, Some, vec_len}
use Rattle.std.specs.Prelude.{slice_get, slice_index}
use Rattle.session_journal.specs.Script.{room}
use Rattle.shard_tables.specs.declared.part.Part.{Part}
use Rattle.shard_tables.specs.Either.{shard_view}
use Rattle.session_hall.specs.Reopenings.{AreKept, IsRoomFor}
use Rattle.session_hall.proofs.reopening.give_room.Given as goal

abbrev pub invariant-loop-place : goal.invariant-loop-place
invariant-loop-place g l = record {
  many : vec_len l.parts ≡ vec_len l.fn.parts;
  kept : AreKept l.fn.parts.items l.parts.items;
  fits : (j : ℕ) (x q : Part) → j < l.place → slice_get l.parts.items j ≡ Some x → slice_get l.fn.parts.items j ≡ Some q
      → IsRoomFor (room (g.S.Tickets.meaning l.tickets) (j / l.shards)) (slice_index l.later (j / l.shards)) (shard_view q) (shard_view x).room;
  rest : (j : ℕ) → l.place ≤ j → slice_get l.parts.items j ≡ slice_get l.fn.parts.items j;
}
