use Rattle.std.proofs.Common.{◌≡◌, replicate, []}
use Rattle.session_values.proofs.opening.Opening.with_seed.Given as goal

-- as many empty lists as there were turns
abbrev pub invariant-loop-table : goal.invariant-loop-table
invariant-loop-table l = l.empty.items ≡ replicate l._table []
