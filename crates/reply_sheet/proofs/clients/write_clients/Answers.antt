use Rattle.std.proofs.Common.{rules, sym, ap, subst, ◌∙◌}
use Rattle.byte_ends.specs.Ends.{AppendedPrefix}
use Rattle.reply_sheet.proofs.TextLemmas.{Waits, waits_none, waits_same}
use Rattle.reply_sheet.proofs.ClientTextLemmas.{no_clients, to_none, to_all, line_waits, none_waits, broke_in, broke_behind}
use Rattle.reply_sheet.proofs.clients.write_clients.Goals.{else-arrival-client-via-then-arrival-client+else-not-gather_line, else-arrival-client-via-else-arrival-client}
use Rattle.reply_sheet.proofs.clients.write_clients.Goals as goal

pub loop-client-init : goal.loop-client-init
loop-client-init g c = record {
  waits = waits_none (g.O.Sink.held c.args.out.now) c.clear.new.self.held _ c.clear.ensures.held (no_clients c.args.names.now c.args.arrivals.now c.args.replies.now);
  well = search rules;
}

pub loop-i-init : goal.loop-i-init
loop-i-init g c = record {
  waits = subst (Waits (g.O.Sink.held c.args.out.now) (g.O.Sink.held c.loop-client.out) c.loop-client.buffer.held) (sym (to_none c.args.names.now c.args.arrivals.now c.args.replies.now c.loop-client.client)) c.loop-client.invariant.waits;
  well = c.loop-client.invariant.well;
}

pub returns-then-not-gather_line-clause-front : goal.returns-then-not-gather_line-clause-front
returns-then-not-gather_line-clause-front g c _ =
    broke_in c.args.names.now c.args.arrivals.now c.args.replies.now c.loop-client.client c.args.clients c.loop-i.i (g.O.Sink.held c.args.out.now) (g.O.Sink.held c.loop-i.out) (g.O.Sink.held c.gather_line.new.out)
    c.loop-i.buffer.held c.loop-client-test.true c.requires.replied c.loop-i.invariant.waits (c.gather_line.ensures.front c.if-not-gather_line.true)

pub loop-i-preserved : goal.loop-i-preserved
loop-i-preserved g c = elim c.else-arrival-client.branch [
  | else-arrival-client-via-then-arrival-client+else-not-gather_line w ↦ record {
    waits = waits_same _ _ _ _ _ _ (ap g.O.Sink.held w.out-is) (ap (λ b. b.held) w.buffer-is)
        (line_waits c.args.names.now c.args.arrivals.now c.args.replies.now c.loop-client.client c.loop-i.i _ w.index-replies-i.result (g.O.Sink.held c.args.out.now) (g.O.Sink.held c.loop-i.out) (g.O.Sink.held w.gather_line.new.out)
        c.loop-i.buffer.held w.gather_line.new.buffer.held c.requires.replied c.loop-i-test.true (sym w.index-replies-i.is) w.if-arrival-client.true c.loop-i.invariant.waits
        (w.gather_line.ensures.all w.if-not-gather_line.false));
    well = ap g.O.Sink.faults w.out-is ∙ w.gather_line.ensures.faults.0 w.if-not-gather_line.false ∙ c.loop-i.invariant.well;
  }
  | else-arrival-client-via-else-arrival-client w ↦ record {
    waits = waits_same _ _ _ _ _ _ (ap g.O.Sink.held w.out-is) (ap (λ b. b.held) w.buffer-is)
        (none_waits c.args.names.now c.args.arrivals.now c.args.replies.now c.loop-client.client c.loop-i.i _ (g.O.Sink.held c.args.out.now) (g.O.Sink.held c.loop-i.out) c.loop-i.buffer.held
        c.requires.replied c.loop-i-test.true w.if-arrival-client.false c.loop-i.invariant.waits);
    well = ap g.O.Sink.faults w.out-is ∙ c.loop-i.invariant.well;
  }
]

pub loop-client-preserved : goal.loop-client-preserved
loop-client-preserved g c = record {
  waits = subst (Waits (g.O.Sink.held c.args.out.now) (g.O.Sink.held c.loop-i.out) c.loop-i.buffer.held) (to_all c.args.names.now c.args.arrivals.now c.args.replies.now c.loop-client.client c.loop-i.i c.requires.replied c.loop-i-test.false) c.loop-i.invariant.waits;
  well = c.loop-i.invariant.well;
}

pub returns-clause-front : goal.returns-clause-front
returns-clause-front g c e =
    broke_behind c.args.names.now c.args.arrivals.now c.args.replies.now c.loop-client.client c.args.clients (g.O.Sink.held c.args.out.now) (g.O.Sink.held c.loop-client.out) (g.O.Sink.held c.write_all.new.out)
    c.loop-client.buffer.held c.loop-client.auto.client-end c.loop-client.invariant.waits
    (subst (AppendedPrefix (g.O.Sink.held c.loop-client.out) (g.O.Sink.held c.write_all.new.out)) c.bytes.ensures (c.write_all.ensures.front e))
