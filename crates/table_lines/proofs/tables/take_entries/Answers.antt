use Rattle.std.proofs.Common.{◌∙◌}
use Rattle.session_values.specs.Opening.{entries_of}
use Rattle.table_lines.proofs.Parts.{taken_more}
use Rattle.table_lines.proofs.tables.take_entries.Goals as goal

pub loop-i-preserved : goal.loop-i-preserved
loop-i-preserved g c = record {
  items = taken_more (entries_of (g.T.TellsEntries.lists c.args.tables.now) c.args.table) c.loop-i.i c.entry_at.result c.loop-i.entries.items c.push_reserved.new.self.items c.entry_at.ensures c.loop-i.invariant.items c.push_reserved.ensures.items;
  capacity = c.push_reserved.ensures.capacity ∙ c.loop-i.invariant.capacity;
}
