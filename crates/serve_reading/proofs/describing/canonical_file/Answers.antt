use Rattle.std.proofs.Common.{subst}
use Rattle.handler_syntax.specs.Language.{File}
use Rattle.handler_check.specs.Checking.{IsRefusal}
use Rattle.handler_check.specs.declared.refusal.CheckRefusal.TheVariants as check
use Rattle.serve_faults.specs.declared.status.Fault.TheVariants as fault
use Rattle.serve_reading.specs.Reasons.{IsFileReason}
use Rattle.serve_reading.proofs.Exits.{exit_named}
use Rattle.serve_reading.proofs.describing.canonical_file.Goals as goal

pub returns-in_err-accepted-clause-refused : goal.returns-in_err-accepted-clause-refused
returns-in_err-accepted-clause-refused c =
    let e = c.in_err-accepted.field-0.0 in
    exit_named check.NoMemory fault.Check (IsFileReason c.args.file) e c.from_residual.result c.from_residual.ensures.1 tt
    (λ broken. subst (λ (f : File). IsRefusal f e) c.into_tree.ensures.tree (c.in_err-accepted.ensures.rules broken))
