use Rattle.std.proofs.Common.{◌≡◌, true, false}
use Rattle.trace_audit.specs.Judging.{front_of}
use Rattle.trace_audit.proofs.Taking.{end_no, end_yes, fails, holds}
use Rattle.trace_audit.proofs.judging.take_end.Goals as goal

pub returns-then-not-answers : goal.returns-then-not-answers
returns-then-not-answers c =
    let e : c.answers.result ≡ false = cc in
    end_no _ (front_of c.args.front.now) (front_of c.args.front.now) _ _ (fails c.answers.result e c.answers.ensures)

pub returns : goal.returns
returns c =
    let e : c.answers.result ≡ true = cc in
    end_yes _ _ _ _ _ (holds c.answers.result e c.answers.ensures) c.end.ensures
