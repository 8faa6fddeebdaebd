-- A session in two parts, one served after the other.
use Rattle.std.specs.Prelude.{ℕ, ◌+◌, ◌-◌}
use Rattle.session_values.specs.Serial.{Session, tables_before}

-- the first n tickets alone
abbrev pub first_part : ℕ → Session → Session
first_part n s = record {
  shape = s.shape;
  opening = s.opening;
  requests = n;
  next = s.next;
  length = s.length;
}

-- the tickets from n on, from the final tables of those before
abbrev pub second_part : ℕ → Session → Session
second_part n s = record {
  shape = s.shape;
  opening = tables_before s n;
  requests = s.requests - n;
  next = λ t. s.next (n + t);
  length = λ t. s.length (n + t);
}
