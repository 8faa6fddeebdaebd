-- Numbers modulo 2^64, in which bumps add.
use Rattle.std.specs.Prelude.{◌≡◌, ℕ, ◌*◌, ◌^◌, ℤ, pos, ◌+ℤ◌}

-- the numbers differ by a multiple of 2^64
pub record IsCongruent (z s : ℤ) : Type 0 where
  pub up : ℕ
  pub down : ℕ
  pub same : z +ℤ pos (up * 2 ^ 64) ≡ s +ℤ pos (down * 2 ^ 64)
