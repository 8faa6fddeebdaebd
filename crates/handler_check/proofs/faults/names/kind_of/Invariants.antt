use Rattle.std.proofs.Common.{◌≡◌, drop}
use Rattle.handler_check.specs.Rules.{kind_of}
use Rattle.handler_check.proofs.faults.names.kind_of.Given as goal

abbrev pub invariant-loop-table : goal.invariant-loop-table
invariant-loop-table l = kind_of l.tables l.name ≡ kind_of (drop l.table-index l.tables) l.name
