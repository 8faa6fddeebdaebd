use Rattle.std.proofs.Common.{◌≡◌, true, false}
use Rattle.trace_audit.specs.Judging.{front_of}
use Rattle.trace_audit.proofs.Taking.{done_no, done_took, fails, holds, next_few, next_fits}
use Rattle.trace_audit.proofs.judging.take_done.Goals as goal

pub returns-then-not-calls : goal.returns-then-not-calls
returns-then-not-calls c =
    let e : c.calls.result ≡ false = cc in
    done_no _ (front_of c.args.front.now) (front_of c.args.front.now) _ _ _ (fails c.calls.result e c.calls.ensures)

pub apply-requires-clause-few : goal.apply-requires-clause-few
apply-requires-clause-few c =
    let e : c.calls.result ≡ true = cc in
    next_few _ _ _ c.args.t c.requires (holds c.calls.result e c.calls.ensures).0

pub apply-requires-clause-fits : goal.apply-requires-clause-fits
apply-requires-clause-fits c =
    let e : c.calls.result ≡ true = cc in
    next_fits _ _ _ c.args.t c.args.op c.requires (holds c.calls.result e c.calls.ensures)

pub returns : goal.returns
returns c =
    let e : c.calls.result ≡ true = cc in
    done_took _ _ _ c.args.t c.args.op c.args.reply c.in_ok-given.given c.same_value.result (holds c.calls.result e c.calls.ensures) c.in_ok-given.ensures.reply c.in_ok-given.ensures.done c.apply.ensures.kinds c.same_value.ensures
