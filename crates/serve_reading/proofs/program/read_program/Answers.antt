use Rattle.std.proofs.Common.{ℕ, List, subst}
use Rattle.handler_syntax.specs.Language.{File, HasFault, IsSourceOf}
use Rattle.handler_syntax.specs.Language.syntax_refusal as syntax
use Rattle.handler_check.specs.Checking.{IsRefusal}
use Rattle.handler_check.specs.declared.refusal.CheckRefusal.TheVariants as check
use Rattle.serve_faults.specs.declared.status.Fault.TheVariants as fault
use Rattle.serve_reading.specs.Reasons.{IsProgramReason}
use Rattle.serve_reading.proofs.Exits.{exit_named}
use Rattle.serve_reading.proofs.program.read_program.Goals as goal

pub returns-in_err-file-clause-refused : goal.returns-in_err-file-clause-refused
returns-in_err-file-clause-refused c =
    let text = c.args.text.now in
    let e = c.in_err-file.field-0.0 in
    exit_named syntax.NoMemory fault.Syntax (IsProgramReason text) e c.from_residual.result c.from_residual.ensures.1 tt
    (λ broken. record { first = subst (λ (ns : List (List ℕ)). HasFault ns text e) c.requires.fresh (c.in_err-file.ensures.refused broken); certain = broken })

pub returns-in_err-checked-clause-refused : goal.returns-in_err-checked-clause-refused
returns-in_err-checked-clause-refused c =
    let text = c.args.text.now in
    let e = c.in_err-checked.field-0.0 in
    let form = subst (λ (ns : List (List ℕ)). IsSourceOf ns text c.in_ok-file.file) c.requires.fresh c.in_ok-file.ensures.ok in
    exit_named check.NoMemory fault.Check (IsProgramReason text) e c.from_residual-in_err-checked.result c.from_residual-in_err-checked.ensures.1 tt
    (λ broken. record { file = c.in_ok-file.file; form = form; first = subst (λ (f : File). IsRefusal f e) c.into_tree.ensures.tree (c.in_err-checked.ensures.rules broken) })
