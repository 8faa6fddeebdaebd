-- How far one slot is past another.
use Rattle.std.proofs.Common.{◌≡◌, ◌≢◌, ℕ, ◌+◌, ◌-◌, ◌<◌, ◌≤◌, ◌⊎◌, inl, inr, leb, eqb, arith}
use Rattle.std.proofs.lemmas.Bool.{cases_lt, cases_eq, cond-true, cond-false, le-leb, lt-leb, eq-eqb, ne_eqb}
use Rattle.shard_tables.specs.Slots.{distance, after}

pub distance_is : (m h s : ℕ) → ((h ≤ s) × (distance m h s ≡ s - h)) ⊎ ((s < h) × (distance m h s ≡ s + m - h))
unfolding distance
distance_is m h s = elim (cases_lt s h) [
  | inl l ↦ inr (l, cond-false (leb h s) (s - h) (s + m - h) (lt-leb h s l))
  | inr g ↦ inl (g, cond-true (leb h s) (s - h) (s + m - h) (le-leb h s g))
]

pub after_is : (m s : ℕ) → ((s + 1 ≡ m) × (after m s ≡ 0)) ⊎ ((s + 1 ≢ m) × (after m s ≡ s + 1))
unfolding after
after_is m s = elim (cases_eq (s + 1) m) [
  | inl e ↦ inl (e, cond-true (eqb (s + 1) m) 0 (s + 1) (eq-eqb (s + 1) m e))
  | inr n ↦ inr (n, cond-false (eqb (s + 1) m) 0 (s + 1) (ne_eqb (s + 1) m n))
]

pub distance-lt : (m h s : ℕ) → h < m → s < m → distance m h s < m
distance-lt m h s p q = grind (arith, distance_is m h s)

pub distance-self : (m h : ℕ) → distance m h h ≡ 0
distance-self m h = grind (arith, distance_is m h h)

pub same_distance : (m h s t : ℕ) → h < m → s < m → t < m → distance m h s ≡ distance m h t → s ≡ t
same_distance m h s t p q r e = grind (arith, distance_is m h s, distance_is m h t)

pub after-lt : (m s : ℕ) → s < m → after m s < m
after-lt m s p = grind (arith, after_is m s)

pub distance-after : (m h s : ℕ) → h < m → s < m → distance m h s + 1 < m → distance m h (after m s) ≡ distance m h s + 1
distance-after m h s p q r = grind (arith, after_is m s, distance_is m h s, distance_is m h (after m s))

-- a slot on the distance to another
pub distance_through : (m h a s : ℕ) → h < m → a < m → s < m → distance m h a ≤ distance m h s → distance m h s ≡ distance m h a + distance m a s
distance_through m h a s p q r l = grind (arith, distance_is m h s, distance_is m h a, distance_is m a s)

pub distance_back : (m h a s : ℕ) → h < m → a < m → s < m → distance m a s ≤ distance m h s → distance m h s ≡ distance m h a + distance m a s
distance_back m h a s p q r l = grind (arith, distance_is m h s, distance_is m h a, distance_is m a s)
