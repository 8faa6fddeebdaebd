-- The law on the handlers of a program.
use Rattle.std.proofs.Common.{ℕ, ◌<◌, ◌≤◌, List, [], ◌∷◌, length, arith}
use Rattle.std.specs.Prelude.{slice_index_or}
use Rattle.std.specs.List.{AllByRecursion}
use Rattle.session_values.specs.declared.value.Value.{Value}
use Rattle.session_values.specs.Values.{IsValue}
use Rattle.symbolic_ops.specs.Instantiate.{ArgWithin, IsWithin}
use Rattle.symbolic_ops.specs.declared.arg.Arg.{Arg}
use Rattle.symbolic_ops.specs.declared.arg.Arg.TheVariants.{Known, Var, Any}
use Rattle.symbolic_ops.specs.declared.symbol.Symbol.{Symbol}
use Rattle.handler_check.specs.Dialogue.{env_of}
use Rattle.handler_check.specs.Resolved.{code_at, shape_of, variables_at}
use Rattle.handler_check.proofs.Codes.{all_within}
use Rattle.may_use_analysis.specs.Own.{IsOfHandler}
use Rattle.may_use_analysis.proofs.Own.{all_members, later_within}
use Rattle.declaration_insertion.specs.Promises.{ArePromised}
use Rattle.declaration_insertion.specs.Program.{ProgramView, IsProgram, declared_at}
use Rattle.declaration_insertion.proofs.Whole.{listed_sets, promised}

pub program_promised : (p : ProgramView) → IsProgram p → (h : ℕ) → h < length p.file.handlers → (args : List Value) → AllByRecursion IsValue args → ArePromised (code_at p.file h) (declared_at p h) (env_of args)
program_promised p is h lt args values =
    let within = all_within p.file is.accepted is.bounds h in
    promised (code_at p.file h) (slice_index_or p.lists h []) (shape_of p.file) 32 args (is.later.each h lt) within.numbered within.within values

-- the symbols of a declaration speak of the handler's variables and the file's tables
pub program_own : (p : ProgramView) → IsProgram p → (h : ℕ) → h < length p.file.handlers → (point : ℕ) → AllByRecursion (IsOfHandler p.file h) (declared_at p h point)
program_own p is h lt point =
    let within = all_within p.file is.accepted is.bounds h in
    all_members (IsOfHandler p.file h) (declared_at p h point) (λ s m. later_within (shape_of p.file) (length (variables_at p.file h)) (code_at p.file h) within.own point s ((listed_sets (code_at p.file h) within.numbered (slice_index_or p.lists h []) (is.later.each h lt) point s).0 m))

few_arg : (n : ℕ) → n ≤ 32 → (a : Arg) → ArgWithin n a → ArgWithin 32 a
few_arg n le (Var x) h = omega (arith, le, h)
few_arg n le (Known v) h = tt
few_arg n le Any h = tt

few_vars : (p : ProgramView) (h : ℕ) → length (variables_at p.file h) ≤ 32 → (list : List Symbol) → AllByRecursion (IsOfHandler p.file h) list → AllByRecursion (λ s. IsWithin 32 s) list
few_vars p h few [] own = tt
few_vars p h few (s ∷ list) own =
    let args = own.0.within in
    ((few_arg (length (variables_at p.file h)) few s.key args.0, few_arg (length (variables_at p.file h)) few s.value args.1), few_vars p h few list own.1)

pub program_vars : (p : ProgramView) → IsProgram p → (h : ℕ) → h < length p.file.handlers → (point : ℕ) → AllByRecursion (λ s. IsWithin 32 s) (declared_at p h point)
program_vars p is h lt point =
    let within = all_within p.file is.accepted is.bounds h in
    few_vars p h within.variables (declared_at p h point) (program_own p is h lt point)
