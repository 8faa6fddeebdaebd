use Rattle.std.proofs.Common.{[], refl, rules, sym, ap, ◌∙◌, subst}
use Rattle.session_values.specs.ReplyText.{reply_text}
use Rattle.byte_ends.specs.Ends.{Appended, AppendedPrefix}
use Rattle.reply_sheet.proofs.TextLemmas.{waits_none, waits_same, waits_written, broke_off, no_text, text_at, line_waits}
use Rattle.reply_sheet.proofs.replies.write_replies.Goals.{then-not-reserve+else-not-write_all, else-not-reserve}
use Rattle.reply_sheet.proofs.replies.write_replies.Goals as goal

pub loop-i-init : goal.loop-i-init
loop-i-init g c = record {
  waits = waits_none (g.O.Sink.held c.args.out.now) c.clear.new.self.held (reply_text c.args.names.now c.args.start []) c.clear.ensures.held (no_text c.args.names.now c.args.start);
  well = search rules;
}

pub returns-then-not-write_all-clause-front : goal.returns-then-not-write_all-clause-front
returns-then-not-write_all-clause-front g c _ =
    let waits = waits_same _ _ _ _ _ _ refl c.reserve.ensures.held c.loop-i.invariant.waits in
    broke_off (g.O.Sink.held c.args.out.now) (g.O.Sink.held c.loop-i.out) (g.O.Sink.held c.write_all.new.out) c.reserve.new.self.held _ _ _ waits
    (subst (AppendedPrefix (g.O.Sink.held c.loop-i.out) (g.O.Sink.held c.write_all.new.out)) c.bytes.ensures (c.write_all.ensures.front c.if-not-write_all.true))
    (text_at c.args.names.now c.args.start c.args.replies.now c.loop-i.i)

pub loop-i-preserved : goal.loop-i-preserved
loop-i-preserved g c = record {
  waits = line_waits c.args.names.now c.args.start c.args.replies.now c.loop-i.i c.index-replies-i.result (g.O.Sink.held c.args.out.now) (g.O.Sink.held c.if-not-reserve.out) c.if-not-reserve.buffer.held c.push_line.new.out.held _
      c.loop-i-test.true (sym c.index-replies-i.is) refl c.push_line.ensures
      (elim c.if-not-reserve.branch [
        | then-not-reserve+else-not-write_all w ↦ waits_same _ _ _ _ _ _ (ap g.O.Sink.held w.out-is) (ap (λ b. b.held) w.buffer-is ∙ w.clear-then-not-reserve.ensures.held)
            (waits_written (g.O.Sink.held c.args.out.now) (g.O.Sink.held c.loop-i.out) (g.O.Sink.held w.write_all.new.out) c.reserve.new.self.held [] _
            (waits_same _ _ _ _ _ _ refl c.reserve.ensures.held c.loop-i.invariant.waits)
            (subst (Appended (g.O.Sink.held c.loop-i.out) (g.O.Sink.held w.write_all.new.out)) w.bytes.ensures (w.write_all.ensures.all w.if-not-write_all.false)) refl)
        | else-not-reserve w ↦ waits_same _ _ _ _ _ _ (ap g.O.Sink.held w.out-is) (ap (λ b. b.held) w.buffer-is ∙ c.reserve.ensures.held) c.loop-i.invariant.waits
      ]);
  well = elim c.if-not-reserve.branch [
    | then-not-reserve+else-not-write_all w ↦ ap g.O.Sink.faults w.out-is ∙ w.write_all.ensures.faults.0 w.if-not-write_all.false ∙ c.loop-i.invariant.well
    | else-not-reserve w ↦ ap g.O.Sink.faults w.out-is ∙ c.loop-i.invariant.well
  ];
}

pub returns-clause-front : goal.returns-clause-front
returns-clause-front g c e =
    broke_off (g.O.Sink.held c.args.out.now) (g.O.Sink.held c.loop-i.out) (g.O.Sink.held c.write_all-2.new.out) c.loop-i.buffer.held _ _ _ c.loop-i.invariant.waits
    (subst (AppendedPrefix (g.O.Sink.held c.loop-i.out) (g.O.Sink.held c.write_all-2.new.out)) c.bytes-2.ensures (c.write_all-2.ensures.front e))
    (text_at c.args.names.now c.args.start c.args.replies.now c.loop-i.i)
