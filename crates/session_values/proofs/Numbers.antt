-- Numbers and tests on them.
use Rattle.std.proofs.Common.{◌≡◌, ℕ, suc, ◌+◌, ◌-◌, ◌<◌, ◌≤◌, Bool, true, false, not, ◌||◌, cond, eqb, ltb, arith, refl}
use Rattle.std.proofs.lemmas.Bool.Decides.{nat_tests}

pub one_zero : ◌≡◌ {A = ℕ} 1 0 → ⊥
one_zero e = omega arith

pub two_zero : ◌≡◌ {A = ℕ} 2 0 → ⊥
two_zero e = omega arith

-- the last number below a bound, or a smaller one
pub lesser : (a n : ℕ) → a < suc n → eqb a n ≡ false → a < n
lesser a n h e = grind (arith, nat_tests)

pub below_two : (n : ℕ) → ltb 1 n ≡ false → n < 2
below_two n e = grind (arith, nat_tests)

-- where there is room for a key that is added, a table has less keys than its room
pub room_by : (adds : Bool) (spare size room : ℕ) → (not adds || ltb 0 spare) ≡ true → spare ≡ room - size → adds ≡ true → size < room
room_by true spare size room h e a = let some : 0 < spare = grind (arith, nat_tests, h) in omega (arith, some, e)
room_by false spare size room h e a = cc

-- ---- the first place that passes a test
pub past_first : (b : Bool) (n : ℕ) → b ≡ false → 0 + 1 ≤ cond (not b) (1 + n) 0
past_first true n e = cc
past_first false n e = omega arith

pub past_on : (b : Bool) (i n : ℕ) → suc i ≤ cond (not b) (1 + n) 0 → (i ≤ n → i + 1 ≤ n) → suc i + 1 ≤ cond (not b) (1 + n) 0
past_on true i n l f = absurd (omega (arith, l))
past_on false i n l f = omega (arith, f (omega (arith, l)))

pub here_first : (b : Bool) (n : ℕ) → b ≡ true → 0 ≡ cond (not b) (1 + n) 0
here_first true n e = refl
here_first false n e = cc

pub here_on : (b : Bool) (i n : ℕ) → suc i ≤ cond (not b) (1 + n) 0 → (i ≤ n → i ≡ n) → suc i ≡ cond (not b) (1 + n) 0
here_on true i n l f = absurd (omega (arith, l))
here_on false i n l f = omega (arith, f (omega (arith, l)))
