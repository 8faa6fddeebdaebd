use Rattle.std.proofs.Common.{◌≡◌, ◌+◌, ◌≤◌, ◌++◌, length, map, vec_len, vec_capacity}
use Rattle.session_hall.proofs.closing.seats_of.Given as goal

abbrev pub invariant-loop-done : goal.invariant-loop-done
invariant-loop-done g l = record {
  moved : l.seats.items ++ map (λ c. c.seat) l.left.items ≡ map (λ c. c.seat) l.fn.callers.items;
  many : l.done + vec_len l.left ≡ vec_len l.fn.callers;
  count : length l.seats.items ≡ l.done;
  room : vec_len l.fn.callers ≤ vec_capacity l.seats;
}
