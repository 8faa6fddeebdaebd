-- The draws of a made session.
use Rattle.std.specs.Prelude.{ℕ, zero, suc, ◌+◌, ◌*◌, ◌/◌, ◌%◌}

-- the state behind a draw, by that before it
abbrev pub next_state : ℕ → ℕ
next_state x = (x * 1103515245 + 12345) % 4294967296

-- what is drawn with the state behind the draw
abbrev pub drawn : ℕ → ℕ
drawn x = (x / 65536) % 32768

-- the state behind n draws
unfoldable pub state_after : ℕ → ℕ → ℕ
state_after start zero = start
state_after start (suc n) = next_state (state_after start n)

-- the n-th draw, from 0
abbrev pub draw : ℕ → ℕ → ℕ
draw start n = drawn (state_after start (suc n))
