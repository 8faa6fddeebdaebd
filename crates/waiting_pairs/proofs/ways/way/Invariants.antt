use Rattle.std.proofs.Common.{◌≡◌, ◌-◌, ◌<◌, ◌++◌, ◌∷◌, length}
use Rattle.waiting_pairs.specs.Steps.{rest_of}
use Rattle.waiting_pairs.proofs.ways.way.Given as goal

abbrev pub invariant-loop : goal.invariant-loop
invariant-loop l = (l.at < length l.table) × (l.way.items ++ l.at ∷ rest_of l.table (l.count - l.counter) l.at ≡ l.ticket ∷ rest_of l.table l.count l.ticket)
