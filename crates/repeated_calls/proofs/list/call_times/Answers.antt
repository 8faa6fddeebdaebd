use Rattle.std.proofs.Common.{arith}
use Rattle.repeated_calls.proofs.Lasts.{calls_again, calls_none, place_for}
use Rattle.repeated_calls.proofs.list.call_times.Goals as goal

pub loop-done-init : goal.loop-done-init
loop-done-init c = calls_none c.args.list.now c.args.op c.requires.some c.requires.last

pub call-requires-clause-place : goal.call-requires-clause-place
call-requires-clause-place c = place_for c.args.list.now c.args.op c.loop-done.done c.loop-done.list c.requires.some (omega (arith, c.loop-done-test.true, c.requires.few)) c.loop-done.invariant

pub loop-done-preserved : goal.loop-done-preserved
loop-done-preserved c = calls_again c.args.list.now c.args.op c.loop-done.done c.loop-done.list c.call.new.self c.requires.some c.loop-done.invariant c.call.ensures
