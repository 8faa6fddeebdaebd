use Rattle.std.proofs.Common.{[], ◌++◌, Option, get_or, refl, rules, ap, ◌∙◌, subst}
use Rattle.byte_ends.specs.Ends.{Appended, AppendedPrefix}
use Rattle.session_values.specs.declared.value.Value.TheVariants.{Nil}
use Rattle.reply_sheet.proofs.TextLemmas.{waits_none, waits_same, waits_written, broke_off}
use Rattle.table_lines.specs.Lines.{lines_of}
use Rattle.table_lines.specs.TableText.{table_line}
use Rattle.table_lines.specs.Written.{Written, text_at, written}
use Rattle.table_lines.proofs.PartText.{printable_at}
use Rattle.table_lines.proofs.Waiting.{no_lines, lines_at, line_waits}
use Rattle.table_lines.proofs.dumping.write_lines.Goals.{then-not-reserve+else-not-write_all, else-not-reserve}
use Rattle.table_lines.proofs.dumping.write_lines.Goals as goal

pub loop-i-init : goal.loop-i-init
loop-i-init g c = record {
  waits = waits_none (g.O.Sink.held c.args.out.now) c.clear.new.self.held (lines_of c.args.names.now c.args.table c.args.kind []) c.clear.ensures.held (no_lines c.args.names.now c.args.table c.args.kind);
  well = search rules;
}

pub returns-then-not-write_all-clause-front : goal.returns-then-not-write_all-clause-front
returns-then-not-write_all-clause-front g c _ =
    let waits = waits_same _ _ _ _ _ _ refl c.reserve.ensures.held c.loop-i.invariant.waits in
    broke_off (g.O.Sink.held c.args.out.now) (g.O.Sink.held c.loop-i.out) (g.O.Sink.held c.write_all.new.out) c.reserve.new.self.held _ _ _ waits
    (subst (AppendedPrefix (g.O.Sink.held c.loop-i.out) (g.O.Sink.held c.write_all.new.out)) c.bytes.ensures (c.write_all.ensures.front c.if-not-write_all.true))
    (lines_at c.args.names.now c.args.table c.args.kind c.args.entries.now c.loop-i.i)

pub push_table_line-requires-clause-key : goal.push_table_line-requires-clause-key
push_table_line-requires-clause-key g c = (c.told_value.ensures.printable c.args.names.now _ (printable_at c.args.names.now c.args.kind c.args.entries.now c.loop-i.i (Nil, Nil) c.loop-i-test.true c.requires.printable)).0

pub push_table_line-requires-clause-value : goal.push_table_line-requires-clause-value
push_table_line-requires-clause-value g c = (c.told_value.ensures.printable c.args.names.now _ (printable_at c.args.names.now c.args.kind c.args.entries.now c.loop-i.i (Nil, Nil) c.loop-i-test.true c.requires.printable)).1

pub loop-i-preserved : goal.loop-i-preserved
loop-i-preserved g c = record {
  waits = line_waits c.args.names.now c.args.table c.args.kind c.args.entries.now c.loop-i.i (Nil, Nil) (g.O.Sink.held c.args.out.now) (g.O.Sink.held c.if-not-reserve.out) c.if-not-reserve.buffer.held c.push_table_line.new.out.held
      c.loop-i-test.true (c.push_table_line.ensures.text ∙ ap (λ (w : Option Written). c.if-not-reserve.buffer.held ++ table_line (text_at c.args.names.now c.args.table) (written c.args.names.now (get_or c.args.entries.now c.loop-i.i (Nil, Nil)).0) w) (c.told_value.ensures.same c.args.names.now))
      (elim c.if-not-reserve.branch [
        | then-not-reserve+else-not-write_all w ↦ waits_same _ _ _ _ _ _ (ap g.O.Sink.held w.out-is) (ap (λ b. b.held) w.buffer-is ∙ w.clear-then-not-reserve.ensures.held)
            (waits_written (g.O.Sink.held c.args.out.now) (g.O.Sink.held c.loop-i.out) (g.O.Sink.held w.write_all.new.out) c.reserve.new.self.held [] _
            (waits_same _ _ _ _ _ _ refl c.reserve.ensures.held c.loop-i.invariant.waits)
            (subst (Appended (g.O.Sink.held c.loop-i.out) (g.O.Sink.held w.write_all.new.out)) w.bytes.ensures (w.write_all.ensures.all w.if-not-write_all.false)) refl)
        | else-not-reserve w ↦ waits_same _ _ _ _ _ _ (ap g.O.Sink.held w.out-is) (ap (λ b. b.held) w.buffer-is ∙ c.reserve.ensures.held) c.loop-i.invariant.waits
      ]);
  well = elim c.if-not-reserve.branch [
    | then-not-reserve+else-not-write_all w ↦ ap g.O.Sink.faults w.out-is ∙ w.write_all.ensures.faults.0 w.if-not-write_all.false ∙ c.loop-i.invariant.well
    | else-not-reserve w ↦ ap g.O.Sink.faults w.out-is ∙ c.loop-i.invariant.well
  ];
}

pub returns-clause-front : goal.returns-clause-front
returns-clause-front g c e =
    broke_off (g.O.Sink.held c.args.out.now) (g.O.Sink.held c.loop-i.out) (g.O.Sink.held c.write_all-2.new.out) c.loop-i.buffer.held _ _ _ c.loop-i.invariant.waits
    (subst (AppendedPrefix (g.O.Sink.held c.loop-i.out) (g.O.Sink.held c.write_all-2.new.out)) c.bytes-2.ensures (c.write_all-2.ensures.front e))
    (lines_at c.args.names.now c.args.table c.args.kind c.args.entries.now c.loop-i.i)
