use Rattle.std.proofs.Common.{List, ap, length, arith, ◌∙◌}
use Rattle.trace_audit.specs.Desk.{ReplayView}
use Rattle.trace_audit.specs.Keeping.{noted}
use Rattle.trace_audit.proofs.Gathered.{gathered_all, gathered_back, gathered_more, gathered_none}
use Rattle.trace_audit.proofs.gathering.gather.Goals as goal

pub loop-e-init : goal.loop-e-init
loop-e-init c = gathered_none _ _ c.in_ok-tickets.ensures

pub loop-e-preserved : goal.loop-e-preserved
loop-e-preserved c =
    gathered_back _ _ _ _ _ (omega (arith, c.note.auto.tickets, ap (λ (rs : List ReplayView). length rs) c.as_mut_slice.ensures.value, c.loop-e.tickets.ok))
    (gathered_more _ _ _ _ c.loop-e.tickets.items _ c.loop-e-test.true c.e-item.is (c.in_ok-note.ensures ∙ ap (λ (rs : List ReplayView). noted rs c.e-item.result) c.as_mut_slice.ensures.value) c.loop-e.invariant)

pub returns : goal.returns
returns c = gathered_all _ _ _ _ c.loop-e-test.false c.loop-e.invariant
