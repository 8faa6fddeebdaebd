use Rattle.waiting_pairs.specs.Steps.{IsSettled, IsTable}
use Rattle.waiting_pairs.proofs.table.table_of.Given as goal

abbrev pub invariant-loop-link : goal.invariant-loop-link
invariant-loop-link l = IsTable l.tickets l.table.items × IsSettled l.links l.link-index l.table.items
