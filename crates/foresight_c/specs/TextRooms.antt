-- How much of a text was put, at a sink that counts it and at one that writes it into a room. Only
-- this crate's own functions cite it.
use Rattle.std.specs.Prelude.{◌≡◌, ℕ, ◌+◌, ◌-◌, ◌≤◌, ◌^◌, min, List, ◌++◌, length}
use Rattle.foresight_c.specs.Fronts.{put_at_front}

-- so many bytes of the whole text were put, up to the largest count, and this rest is still to come
abbrev pub IsCounted : ℕ → List ℕ → List ℕ → Type 0
IsCounted count whole rest = (length rest ≤ length whole)
    × (count ≡ min (2 ^ 64 - 1) (length whole - length rest))

-- a front of the whole text was put into a room, as much of it as that takes
pub record IsPutFront (old now : List ℕ) (at : ℕ) (whole rest : List ℕ) : Type 0 where
  pub done : List ℕ
  pub is_done : done ++ rest ≡ whole
  pub room_is : now ≡ put_at_front old done
  pub at_is : at ≡ min (length old) (length done)
