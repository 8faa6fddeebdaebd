-- What a bump leaves is the whole sum modulo 2^64.
use Rattle.std.proofs.Common.{◌≡◌, ℕ, ℤ, pos, negsuc, ◌+◌, ◌-◌, ◌*◌, ◌/◌, ◌%◌, ◌<◌, ◌≤◌, ◌+ℤ◌, arith}
use Rattle.std.specs.Int.{int_wrap, cast_signed, w64}
use Rattle.std.specs.Int.RustNames.{FitsSigned}
use Rattle.std.proofs.lemmas.Int.{ints}
use Rattle.session_values.specs.Bumps.{IsCongruent}

data Half (r : ℕ) : Type 0 where
  low : r < 9223372036854775808 → Half r
  high : 9223372036854775808 ≤ r → Half r

half_of : (r : ℕ) → Half r
half_of r = grind arith

-- the residue r, as a number with a sign
signed : (z : ℤ) (r u d : ℕ) → r < 18446744073709551616 → z +ℤ pos (u * 18446744073709551616) ≡ pos (r + d * 18446744073709551616) → IsCongruent z (cast_signed w64 r)
signed z r u d small e = go (half_of r)
  where
    go : Half r → IsCongruent z (cast_signed w64 r)
    go (low p) = record { up = u; down = d; same = omega (arith, ints) }
    go (high p) = record { up = u; down = d + 1; same = grind (arith, ints) }

pub wrapped : (z : ℤ) → IsCongruent z (int_wrap w64 z)
unfolding int_wrap
wrapped (pos a) = signed (pos a) (a % 18446744073709551616) 0 (a / 18446744073709551616) (omega arith) (omega (arith, ints))
wrapped (negsuc a) = signed (negsuc a) (18446744073709551616 - 1 - a % 18446744073709551616) (a / 18446744073709551616 + 1) 0 (omega arith) (omega (arith, ints))

pub only_one : (z s t : ℤ) → FitsSigned w64 s → FitsSigned w64 t → IsCongruent z s → IsCongruent z t → s ≡ t
only_one z s t f g a b = let e = a.same in let h = b.same in omega (arith, ints)
