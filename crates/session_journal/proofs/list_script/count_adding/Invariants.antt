use Rattle.std.proofs.Common.{◌≡◌, take}
use Rattle.session_journal.specs.Lists.{adding}
use Rattle.session_journal.proofs.list_script.count_adding.Given as goal

abbrev pub invariant-loop-op : goal.invariant-loop-op
invariant-loop-op l = l.count ≡ adding l.table (take l.op-index l.ops)
