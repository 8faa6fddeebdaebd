use Rattle.std.proofs.Common.{◌≡◌, ◌-◌, Some, map, slice_get}
use Rattle.session_journal.specs.Opening.{entries_of}
use Rattle.session_journal.proofs.Filling.{holding}
use Rattle.session_values.specs.Tables.{kind_of}
use Rattle.plain_desk.proofs.opening.fill_table.Given as goal

-- the last entries have entered
abbrev pub invariant-loop-done : goal.invariant-loop-done
invariant-loop-done g l = record {
  kinds : slice_get (map kind_of l.tables) l.table ≡ Some l.kind;
  held : l.tables ≡ holding l.fn.tables l.table l.kind (entries_of (g.S.Script.meaning l.script).opened l.table) (l.len - l.done);
}
