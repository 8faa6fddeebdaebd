use Rattle.std.proofs.Common.{◌<◌, List, length, subst, sym}
use Rattle.std.specs.List.{AllByRecursion}
use Rattle.symbolic_ops.specs.Instantiate.{IsWithin}
use Rattle.symbolic_ops.specs.declared.symbol.Symbol.{Symbol}
use Rattle.may_use_analysis.specs.Own.{IsOfHandler}
use Rattle.declaration_insertion.specs.Program.{ProgramView}
use Rattle.declaration_insertion.proofs.Programs.{program_own, program_vars}
use Rattle.declaration_insertion.proofs.program.Program.declaration.Goals as goal

pub returns-clause-vars : goal.returns-clause-vars
returns-clause-vars c =
    let p : ProgramView = record { file = c.self.inside.checked; lists = c.self.inside.later } in
    let inside : c.args.h < length p.file.handlers = subst (λ (v : ProgramView). c.args.h < length v.file.handlers) (sym c.self.view_is) c.requires.handler in
    subst (λ (l : List Symbol). AllByRecursion (λ s. IsWithin 32 s) l) (sym c.list.ensures) (program_vars p c.self.invariant.0 c.args.h inside c.args.point)

pub returns-clause-own : goal.returns-clause-own
returns-clause-own c =
    let p : ProgramView = record { file = c.self.inside.checked; lists = c.self.inside.later } in
    let inside : c.args.h < length p.file.handlers = subst (λ (v : ProgramView). c.args.h < length v.file.handlers) (sym c.self.view_is) c.requires.handler in
    subst (λ (v : ProgramView). AllByRecursion (IsOfHandler v.file c.args.h) c.list.result.now) c.self.view_is (subst (λ (l : List Symbol). AllByRecursion (IsOfHandler p.file c.args.h) l) (sym c.list.ensures) (program_own p c.self.invariant.0 c.args.h inside c.args.point))
