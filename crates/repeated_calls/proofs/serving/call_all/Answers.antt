use Rattle.std.proofs.Common.{◌≡◌, arith, sym, ◌∙◌, subst}
use Rattle.session_values.specs.Dialogue.{Answers, Calls}
use Rattle.session_journal.specs.Desks.{MayFinish, next_of}
use Rattle.repeated_calls.specs.Repeated.{no_value}
use Rattle.repeated_calls.proofs.Calling.{answers_next, called_more, calls_next, may_finish, on_err, served, stopped}
use Rattle.repeated_calls.proofs.serving.call_all.Goals as goal

pub call-requires-clause-next : goal.call-requires-clause-next
call-requires-clause-next g c =
    subst (λ s. next_of (g.D.Served.Tickets.meaning s) (g.D.Desk.at c.loop-done.desk) ≡ Calls c.args.op) (sym c.loop-done.invariant.0)
    (calls_next (g.D.Served.Tickets.meaning (g.D.Desk.script c.args.desk.now)) c.args.op c.args.times c.args.list.now.symbols (g.D.Desk.at c.args.desk.now) c.requires.plan (g.D.Desk.at c.loop-done.desk) c.loop-done.done c.loop-done.invariant.1 (omega (arith, c.loop-done-test.true)))

pub finish-requires : goal.finish-requires
finish-requires g c =
    subst (λ s. MayFinish (g.D.Served.Tickets.meaning s) (g.D.Desk.at c.call.new.self) (g.D.Desk.at c.call.new.self).waiting c.args.list.now.symbols) (sym (c.call.ensures.script ∙ c.loop-done.invariant.0))
    (may_finish (g.D.Served.Tickets.meaning (g.D.Desk.script c.args.desk.now)) c.args.op c.args.times c.args.list.now.symbols (g.D.Desk.at c.args.desk.now) c.requires.plan (g.D.Desk.at c.loop-done.desk) c.loop-done.done c.loop-done.invariant.1 c.in_ok-call.field-0 (g.D.Desk.at c.call.new.self) c.in_ok-call.ensures.waits)

pub loop-done-preserved : goal.loop-done-preserved
loop-done-preserved g c = (
  c.finish.ensures.script ∙ c.call.ensures.script ∙ c.loop-done.invariant.0,
  called_more (g.D.Served.Tickets.meaning (g.D.Desk.script c.args.desk.now)) c.args.op c.args.times c.args.list.now.symbols (g.D.Desk.at c.args.desk.now) c.requires.plan (g.D.Desk.at c.loop-done.desk) c.loop-done.done c.loop-done.invariant.1 c.in_ok-call.field-0 (g.D.Desk.at c.call.new.self) (g.D.Desk.at c.finish.new.self) (omega (arith, c.loop-done-test.true)) c.in_ok-call.ensures.waits c.finish.ensures.finished,
)

pub returns-in_err-call-clause-stopped : goal.returns-in_err-call-clause-stopped
returns-in_err-call-clause-stopped g c =
    on_err c.from_residual.result _
    (stopped (g.D.Served.Tickets.meaning (g.D.Desk.script c.args.desk.now)) c.args.op c.args.times c.args.list.now.symbols (g.D.Desk.at c.args.desk.now) c.requires.plan (g.D.Desk.at c.loop-done.desk) c.loop-done.done c.loop-done.invariant.1 (g.D.Desk.at c.call.new.self) (omega (arith, c.loop-done-test.true)) c.in_err-call.ensures.waits.0 c.in_err-call.ensures.waits.1)

pub end-requires-clause-answers : goal.end-requires-clause-answers
end-requires-clause-answers g c =
    subst (λ r. next_of (g.D.Served.Tickets.meaning (g.D.Desk.script c.loop-done.desk)) (g.D.Desk.at c.loop-done.desk) ≡ Answers r) (sym c.nil.ensures)
    (subst (λ s. next_of (g.D.Served.Tickets.meaning s) (g.D.Desk.at c.loop-done.desk) ≡ Answers no_value) (sym c.loop-done.invariant.0)
    (answers_next (g.D.Served.Tickets.meaning (g.D.Desk.script c.args.desk.now)) c.args.op c.args.times c.args.list.now.symbols (g.D.Desk.at c.args.desk.now) c.requires.plan (g.D.Desk.at c.loop-done.desk) c.loop-done.done c.loop-done.invariant.1 (omega (arith, c.loop-done-test.false))))

pub returns-clause-served : goal.returns-clause-served
returns-clause-served g c =
    served (g.D.Served.Tickets.meaning (g.D.Desk.script c.args.desk.now)) c.args.op c.args.times c.args.list.now.symbols (g.D.Desk.at c.args.desk.now) c.requires.plan (g.D.Desk.at c.loop-done.desk) c.loop-done.done c.loop-done.invariant.1 (g.D.Desk.at c.end.new.self) (omega (arith, c.loop-done-test.false)) c.end.ensures.ended
