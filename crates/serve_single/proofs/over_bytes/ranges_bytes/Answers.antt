use Rattle.std.proofs.Common.{subst, sym}
use Rattle.serve_faults.specs.Command.TheVariants.{Ranges}
use Rattle.serve_faults.specs.declared.status.Status.{Status}
use Rattle.serve_single.specs.Runs.{EndsUnanswered}
use Rattle.serve_single.proofs.EndLemmas.{unranged_bytes}
use Rattle.serve_single.proofs.TopLemmas.{unranged_large}
use Rattle.serve_single.proofs.over_bytes.ranges_bytes.Goals as goal

pub returns-then-bytes-gt-MAX_INPUT-clause-ended : goal.returns-then-bytes-gt-MAX_INPUT-clause-ended
returns-then-bytes-gt-MAX_INPUT-clause-ended c = unranged_large c.args.bytes.now c.if-bytes-gt-MAX_INPUT.true

pub returns-in-Ok-clause-text : goal.returns-in-Ok-clause-text
returns-in-Ok-clause-text c = (c.in-Ok.ensures.input, c.in-Ok.ensures.text)

pub returns-in-Err-clause-ended : goal.returns-in-Err-clause-ended
returns-in-Err-clause-ended c =
    subst (λ (s : Status). EndsUnanswered Ranges c.args.bytes.now s) (sym c.ended.ensures) (unranged_bytes c.args.bytes.now c.in-Err.e c.in-Err.ensures.refused)
