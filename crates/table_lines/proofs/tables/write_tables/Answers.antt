use Rattle.std.proofs.Common.{◌≤◌, refl, sym, subst, ◌∙◌, arith}
use Rattle.std.specs.Prelude.{length, vec_capacity}
use Rattle.session_values.specs.Opening.{entries_of}
use Rattle.table_lines.specs.Dumped.{CanDump}
use Rattle.table_lines.proofs.Parts.{all_written, entries_at, head_broken, lists_long, none_written, part_broken, part_written, room_at}
use Rattle.table_lines.proofs.tables.write_tables.Goals as goal

pub returns-then-not-write_head-clause-front : goal.returns-then-not-write_head-clause-front
returns-then-not-write_head-clause-front g c _ =
    head_broken c.args.names.now c.args.decls.now (g.T.TellsEntries.lists c.args.tables.now) (g.O.Sink.held c.args.out.now) (g.O.Sink.held c.write_head.new.out) (c.write_head.ensures.front c.if-not-write_head.true)

pub loop-table-init : goal.loop-table-init
loop-table-init g c = record {
  grew = none_written c.args.names.now c.args.decls.now (g.T.TellsEntries.lists c.args.tables.now) (g.O.Sink.held c.args.out.now) (g.O.Sink.held c.write_head.new.out) (c.write_head.ensures.all c.if-not-write_head.false);
  well = c.write_head.ensures.faults.0 c.if-not-write_head.false;
  capacity = refl;
}

pub take_entries-requires-clause-table : goal.take_entries-requires-clause-table
take_entries-requires-clause-table g c =
    omega (arith, c.loop-table-test.true, lists_long c.args.names.now c.args.decls.now (g.T.TellsEntries.lists c.args.tables.now) c.requires.tables.entries)

pub take_entries-requires-clause-room : goal.take_entries-requires-clause-room
take_entries-requires-clause-room g c =
    subst (λ n. length (entries_of (g.T.TellsEntries.lists c.args.tables.now) c.loop-table.table) ≤ n) (sym c.loop-table.invariant.capacity)
    (room_at (vec_capacity c.args.entries.now) (g.T.TellsEntries.lists c.args.tables.now) c.loop-table.table c.requires.room)

pub write_entries-requires-clause-entries : goal.write_entries-requires-clause-entries
write_entries-requires-clause-entries g c =
    let lists = g.T.TellsEntries.lists c.args.tables.now in
    subst (CanDump c.args.names.now _) (sym (c.as_mut_slice.ensures.value ∙ c.take_entries.ensures.items))
    (entries_at c.args.names.now c.args.decls.now lists c.loop-table.table _ c.loop-table-test.true c.requires.tables.entries)

pub returns-then-not-write_entries-clause-front : goal.returns-then-not-write_entries-clause-front
returns-then-not-write_entries-clause-front g c _ =
    part_broken c.args.names.now c.args.decls.now (g.T.TellsEntries.lists c.args.tables.now) (g.O.Sink.held c.args.out.now) (g.O.Sink.held c.loop-table.out) (g.O.Sink.held c.write_entries.new.out) _ c.loop-table.table _ c.loop-table-test.true
    (c.as_mut_slice.ensures.value ∙ c.take_entries.ensures.items) c.loop-table.invariant.grew (c.write_entries.ensures.front c.if-not-write_entries.true)

pub loop-table-preserved : goal.loop-table-preserved
loop-table-preserved g c = record {
  grew = part_written c.args.names.now c.args.decls.now (g.T.TellsEntries.lists c.args.tables.now) (g.O.Sink.held c.args.out.now) (g.O.Sink.held c.loop-table.out) (g.O.Sink.held c.write_entries.new.out) _ c.loop-table.table _ c.loop-table-test.true
      (c.as_mut_slice.ensures.value ∙ c.take_entries.ensures.items) c.loop-table.invariant.grew (c.write_entries.ensures.all c.if-not-write_entries.false);
  well = c.write_entries.ensures.faults.0 c.if-not-write_entries.false ∙ c.loop-table.invariant.well;
  capacity = c.take_entries.ensures.capacity ∙ c.loop-table.invariant.capacity;
}

pub returns-clause-all : goal.returns-clause-all
returns-clause-all g c _ =
    all_written c.args.names.now c.args.decls.now (g.T.TellsEntries.lists c.args.tables.now) (g.O.Sink.held c.args.out.now) (g.O.Sink.held c.loop-table.out) c.loop-table.table (omega (arith, c.loop-table-test.false)) c.loop-table.invariant.grew
