use Rattle.std.proofs.Common.{◌∙◌, ap, refl, subst, sym}
use Rattle.handler_syntax.specs.Language.{File}
use Rattle.handler_check.specs.Checking.{IsAccepted, IsRefusal}
use Rattle.handler_check.specs.declared.refusal.CheckRefusal.TheVariants as check
use Rattle.may_use_analysis.specs.Later.{AreLater}
use Rattle.declaration_insertion.specs.Program.{ProgramView}
use Rattle.serve_faults.specs.declared.status.Fault.TheVariants as fault
use Rattle.serve_reading.specs.Reasons.{IsFileReason}
use Rattle.serve_reading.proofs.Exits.{exit_named}
use Rattle.serve_reading.proofs.Loading.{declared_is}
use Rattle.serve_reading.proofs.describing.declared_file.Goals as goal

pub returns-in_err-checked-clause-refused : goal.returns-in_err-checked-clause-refused
returns-in_err-checked-clause-refused c =
    let e = c.in_err-checked.field-0.0 in
    exit_named check.NoMemory fault.Check (IsFileReason c.args.file) e c.from_residual.result c.from_residual.ensures.1 tt
    (λ broken. subst (λ (f : File). IsRefusal f e) c.into_tree.ensures.tree (c.in_err-checked.ensures.rules broken))

pub returns-then-is_countable-clause-text : goal.returns-then-is_countable-clause-text
returns-then-is_countable-clause-text c =
    let made = c.in_ok-program.ensures in
    let tree = c.into_tree.ensures.tree in
    declared_is c.args.names.now c.args.file _ c.in_ok-program.program (subst IsAccepted tree c.in_ok-checked.ensures.rules)
    (ap (λ (p : ProgramView). p.file) made ∙ c.in_ok-checked.ensures.file ∙ tree)
    (subst (λ (p : ProgramView). AreLater p.file p.lists) (sym made) c.in_ok-later.ensures.lists) refl
