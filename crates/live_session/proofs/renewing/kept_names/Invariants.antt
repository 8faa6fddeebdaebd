use Rattle.std.proofs.Common.{◌≡◌, ◌<◌, ◌≤◌, ℕ, length, take, vec_capacity, vec_len}
use Rattle.live_session.specs.Moving.{kept, place_in, set_before}
use Rattle.live_session.proofs.renewing.kept_names.Given as goal

-- those of the first names that are kept are placed, and for each of these it is told where
abbrev pub invariant-loop-place : goal.invariant-loop-place
invariant-loop-place l = record {
  names : l.new ≡ kept l.flags (take l.place l.names);
  places : (i : ℕ) → i < l.place → place_in l.places.items i ≡ set_before i l.flags;
  many : length l.places.items ≡ l.place;
  long : vec_len l.places ≡ l.place;
  room : length l.names ≤ vec_capacity l.places;
}
