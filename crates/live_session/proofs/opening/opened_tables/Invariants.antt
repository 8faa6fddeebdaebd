use Rattle.std.proofs.Common.{◌≡◌, ◌≤◌, length, take, vec_capacity, vec_len}
use Rattle.session_values.specs.Opening.{tables_of}
use Rattle.live_session.specs.Held.{factors_in, held}
use Rattle.live_session.specs.Openings.{seeded}
use Rattle.live_session.proofs.opening.opened_tables.Given as goal

-- the first tables are filled
abbrev pub invariant-loop-table : goal.invariant-loop-table
invariant-loop-table l = record {
  filled : held l.parts.items ≡ tables_of (take l.table l.shape) l.opening;
  factors : factors_in l.parts.items ≡ seeded l.fn.seed (held l.parts.items);
  long : vec_len l.parts ≡ l.table;
  room : length l.shape ≤ vec_capacity l.parts;
}
