use Rattle.trace_audit.proofs.Judges.{judge_all, judge_next, judge_on, judge_stop}
use Rattle.trace_audit.proofs.judging.first_against.Goals as goal

pub take-requires : goal.take-requires
take-requires c = judge_next _ _ _ _ _ _ c.requires c.loop-at.invariant c.loop-at-test.true c.index-events-at.is

pub returns-then-not-branch : goal.returns-then-not-branch
returns-then-not-branch c = judge_stop _ _ _ _ _ _ _ c.in_ok-take.field-0 c.loop-at.invariant c.loop-at-test.true c.index-events-at.is c.if-not-branch.true c.in_ok-take.ensures

pub loop-at-preserved : goal.loop-at-preserved
loop-at-preserved c = judge_on _ _ _ _ _ _ _ c.in_ok-take.field-0 c.loop-at.invariant c.loop-at-test.true c.index-events-at.is c.if-not-branch.false c.in_ok-take.ensures

pub returns : goal.returns
returns c = judge_all _ _ _ _ _ c.loop-at.invariant c.loop-at-test.false
