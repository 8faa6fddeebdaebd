use Rattle.std.proofs.Common.{◌≡◌, ℕ, ◌-◌, ◌<◌, ◌≤◌, false, get_or, Some, vec_len, vec_capacity}
use Rattle.std.specs.Prelude.{slice_get}
use mathlib.Core.Option.{some}
use lib.ListN.{get_elem?}
use Rattle.std.specs.Mem.Slots.{slots_items, slots_filled, slots_len}
use Rattle.std.specs.Mem.Slots.Ownership.{Filled}
use Rattle.turn_steps.proofs.close.empty_out.Given as goal

abbrev pub invariant-loop-turn : goal.invariant-loop-turn
invariant-loop-turn g l = record {
  full : Filled (slots_filled l.closed.slots) l.turn (slots_len l.closed.slots);
  gone : (k : ℕ) → k < l.turn → get_or (slots_filled l.closed.slots) k false ≡ false;
  items : slots_items l.closed.slots ≡ slots_items l.fn.closed.slots;
  count : slots_len l.closed.slots ≡ slots_len l.fn.closed.slots;
  near : l.turn ≤ slots_len l.closed.slots;
  len : vec_len l.kept ≡ l.turn;
  room : vec_capacity l.kept ≡ vec_capacity l.fn.kept;
  values : (t : ℕ) → t < l.turn → (x : _) × (get_elem? (slots_items l.fn.closed.slots) t ≡ some (Some x)) × (slice_get l.kept.items t ≡ Some x);
}

abbrev pub decreases-loop-turn : goal.decreases-loop-turn
decreases-loop-turn g l = slots_len l.closed.slots - l.turn
