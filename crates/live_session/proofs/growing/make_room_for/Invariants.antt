use Rattle.std.proofs.Common.{◌≡◌, ◌+◌, ◌<◌, ◌≤◌, ℕ}
use Rattle.session_values.specs.Tables.{size_of, table}
use Rattle.live_session.specs.Held.{adds_in, factors_in, held, room_at}
use Rattle.live_session.proofs.growing.make_room_for.Given as goal

-- the tables hold what they held, and the first ones have room
abbrev pub invariant-loop-t : goal.invariant-loop-t
invariant-loop-t l = record {
  same : held l.parts.items ≡ held l.fn.parts.items;
  factors : factors_in l.parts.items ≡ factors_in l.fn.parts.items;
  room : (t : ℕ) → t < l.t → size_of (table (held l.parts.items) t) + adds_in l.adds t l.h ≤ room_at l.parts.items t;
}
