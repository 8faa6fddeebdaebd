-- Each line that is gathered is the next one, and at the end the next one is missing.
use Rattle.std.proofs.Common.{[], refl, rules, sym, ap, ◌∙◌, subst}
use Rattle.session_values.specs.ReplyText.{line_text}
use Rattle.byte_ends.specs.Ends.{Appended, AppendedPrefix}
use Rattle.reply_sheet.proofs.ReadyLemmas.{Reached, reached_none, reached_same, reached_written, reached_line, reached_broke, reached_here, reached_past}
use Rattle.reply_sheet.proofs.ready.write_ready.Goals.{then-not-reserve+else-not-write_all, else-not-reserve}
use Rattle.reply_sheet.proofs.ready.write_ready.Goals as goal

pub loop-ticket-init : goal.loop-ticket-init
loop-ticket-init g c = record {
  reached = reached_none c.args.names.now c.args.pending.now.next c.args.pending.now.waiting (g.O.Sink.held c.args.out.now) c.clear.new.self.held c.clear.ensures.held;
  well = refl;
}

pub returns-then-not-write_all-clause-onward : goal.returns-then-not-write_all-clause-onward
returns-then-not-write_all-clause-onward g c =
    let n = c.in-Some.ensures in
    reached_past c.args.names.now c.args.pending.now.next c.args.pending.now.waiting (g.O.Sink.held c.args.out.now) (g.O.Sink.held c.loop-ticket.out) c.loop-ticket.buffer.held c.loop-ticket.pending.next c.take_next.new.self.next c.in-Some.reply c.loop-ticket.pending.waiting c.take_next.new.self.waiting
    n.waiting n.next c.loop-ticket.invariant.reached

pub returns-then-not-write_all-clause-front : goal.returns-then-not-write_all-clause-front
returns-then-not-write_all-clause-front g c _ =
    let rest = c.loop-ticket.pending.waiting in
    reached_broke c.args.names.now c.args.pending.now.next c.args.pending.now.waiting (g.O.Sink.held c.args.out.now) (g.O.Sink.held c.loop-ticket.out) (g.O.Sink.held c.write_all.new.out) c.reserve.new.self.held c.loop-ticket.pending.next rest
    (reached_same c.args.names.now c.args.pending.now.next c.args.pending.now.waiting (g.O.Sink.held c.args.out.now) (g.O.Sink.held c.loop-ticket.out) (g.O.Sink.held c.loop-ticket.out) c.loop-ticket.buffer.held c.reserve.new.self.held c.loop-ticket.pending.next rest
    refl c.reserve.ensures.held c.loop-ticket.invariant.reached)
    (subst (AppendedPrefix (g.O.Sink.held c.loop-ticket.out) (g.O.Sink.held c.write_all.new.out)) c.bytes.ensures (c.write_all.ensures.front c.if-not-write_all.true))

pub push_line-requires-clause-printable : goal.push_line-requires-clause-printable
push_line-requires-clause-printable g c =
    let n = c.in-Some.ensures in
    let here = reached_here c.args.names.now c.args.pending.now.next c.args.pending.now.waiting (g.O.Sink.held c.args.out.now) (g.O.Sink.held c.loop-ticket.out) c.loop-ticket.buffer.held c.loop-ticket.pending.next c.in-Some.reply c.loop-ticket.pending.waiting c.take_next.new.self.waiting
    n.waiting c.loop-ticket.invariant.reached in
    let fact = c.requires.printable here.0 c.in-Some.reply here.1 in
    search (rules, fact)

pub loop-ticket-preserved : goal.loop-ticket-preserved
loop-ticket-preserved g c =
    let n = c.in-Some.ensures in
    let names = c.args.names.now in
    let start = c.args.pending.now.next in
    let all = c.args.pending.now.waiting in
    let first = g.O.Sink.held c.args.out.now in
    let next = c.loop-ticket.pending.next in
    let rest = c.loop-ticket.pending.waiting in
    let more = c.take_next.new.self.waiting in
    record {
      reached = subst (λ m. Reached names first (g.O.Sink.held c.if-not-reserve.out) c.push_line.new.out.held start m all more) (sym n.next)
          (reached_line names start all first (g.O.Sink.held c.if-not-reserve.out) c.if-not-reserve.buffer.held c.push_line.new.out.held (line_text names c.in-Some.ticket c.in-Some.reply) next c.in-Some.reply rest more n.waiting (ap (λ t. line_text names t c.in-Some.reply) n.ticket) (search rules)
          (elim c.if-not-reserve.branch [
            | then-not-reserve+else-not-write_all w ↦ reached_same names start all first _ _ _ _ next rest (ap g.O.Sink.held w.out-is) (ap (λ b. b.held) w.buffer-is ∙ w.clear-then-not-reserve.ensures.held)
                (reached_written names start all first (g.O.Sink.held c.loop-ticket.out) (g.O.Sink.held w.write_all.new.out) c.reserve.new.self.held [] next rest
                (reached_same names start all first _ _ _ _ next rest refl c.reserve.ensures.held c.loop-ticket.invariant.reached)
                (subst (Appended (g.O.Sink.held c.loop-ticket.out) (g.O.Sink.held w.write_all.new.out)) w.bytes.ensures (w.write_all.ensures.all w.if-not-write_all.false)) refl)
            | else-not-reserve w ↦ reached_same names start all first _ _ _ _ next rest (ap g.O.Sink.held w.out-is) (ap (λ b. b.held) w.buffer-is ∙ c.reserve.ensures.held) c.loop-ticket.invariant.reached
          ]));
      well = elim c.if-not-reserve.branch [
        | then-not-reserve+else-not-write_all w ↦ ap g.O.Sink.faults w.out-is ∙ w.write_all.ensures.faults.0 w.if-not-write_all.false ∙ c.loop-ticket.invariant.well
        | else-not-reserve w ↦ ap g.O.Sink.faults w.out-is ∙ c.loop-ticket.invariant.well
      ];
    }

pub returns-clause-front : goal.returns-clause-front
returns-clause-front g c e =
    reached_broke c.args.names.now c.args.pending.now.next c.args.pending.now.waiting (g.O.Sink.held c.args.out.now) (g.O.Sink.held c.loop-ticket.out) (g.O.Sink.held c.write_all-2.new.out) c.loop-ticket.buffer.held c.loop-ticket.pending.next c.loop-ticket.pending.waiting
    c.loop-ticket.invariant.reached
    (subst (AppendedPrefix (g.O.Sink.held c.loop-ticket.out) (g.O.Sink.held c.write_all-2.new.out)) c.bytes-2.ensures (c.write_all-2.ensures.front e))
