use Rattle.std.proofs.Common.{◌≡◌, true, false, arith}
use Rattle.trace_audit.specs.Judging.{front_of, standing_at}
use Rattle.trace_audit.proofs.Taking.{delay_no, delay_yes, fails, holds, next_known}
use Rattle.trace_audit.proofs.judging.take_delay.Goals as goal

pub returns-then-not-calls : goal.returns-then-not-calls
returns-then-not-calls c =
    let e : c.calls.result ≡ false = cc in
    delay_no _ (front_of c.args.front.now) (front_of c.args.front.now) _ _ _ _ (λ less against once calls. fails c.calls.result e c.calls.ensures calls)

pub commute_symbol-requires : goal.commute_symbol-requires
commute_symbol-requires c = next_known _ _ _ _ _ _ c.requires

pub returns : goal.returns
returns c =
    let e : c.calls.result ≡ true = cc in
    let d : c.commute_symbol.result ≡ false = cc in
    let once : (standing_at c.args.front.now.standings.items c.args.t).delayed ≡ false = cc in
    delay_yes _ _ _ _ _ _ _ (omega arith) (fails c.commute_symbol.result d c.commute_symbol.ensures.exact) once (holds c.calls.result e c.calls.ensures) c.delay.ensures
