-- What sets of symbols at the points promise: the law before the lists.
use Rattle.std.specs.Prelude.{◌≡◌, ℕ, List, [], ◌∷◌}
use Rattle.session_values.specs.declared.op.Op.{Op}
use Rattle.session_values.specs.Op.{IsHeld}
use Rattle.symbolic_ops.specs.declared.arg.Arg.{Arg}
use Rattle.symbolic_ops.specs.declared.arg.Arg.TheVariants.{Known, Var, Any}
use Rattle.symbolic_ops.specs.declared.symbol.Symbol.{Symbol}
use Rattle.symbolic_ops.specs.Matching.{StandsFor}
use Rattle.handler_check.specs.Dialogue.{Env, Place, Outcome, Calls, Answers, Goes}
use Rattle.may_use_analysis.specs.Trails.{Symbols}
use Rattle.declaration_insertion.specs.Promises.{symbol_at}

-- the sets that are declared at the points
abbrev pub SetsAt : Type 1
SetsAt = ℕ → Symbols

-- an argument below another one
abbrev pub IsBelowArg : Arg → Arg → Type 0
IsBelowArg g (Known v) = g ≡ Known v
IsBelowArg g (Var x) = g ≡ Var x
IsBelowArg g Any = Unit {0}

-- a symbol below another one
abbrev pub IsBelow : Symbol → Symbol → Type 0
IsBelow g f = (g.kind ≡ f.kind) × (g.table ≡ f.table) × IsBelowArg g.key f.key × IsBelowArg g.value f.value

-- it stands for the operation, if a program can hold that
abbrev pub MayStandFor : Symbol → Op → Type 0
MayStandFor s op = IsHeld op → StandsFor s op

-- a set of symbols, each with the values of the variables here, is covered by another one with the values there
abbrev pub CoveredBy : Symbols → Env → Symbols → Env → Type 0
CoveredBy later env earlier was =
    (s : Symbol) → later s → (f : Symbol) × earlier f × IsBelow (symbol_at env s) (symbol_at was f)

-- the set of this place has a symbol that stands for the operation
abbrev pub SetMatches : SetsAt → Place → Op → Type 0
SetMatches declared at op = (f : Symbol) × declared at.point f × MayStandFor (symbol_at at.env f) op

-- each set is covered by the one before it, and this holds of the last place
abbrev pub IsCoveredRun : SetsAt → Place → List Place → (Place → Type 0) → Type 0
IsCoveredRun declared at [] last = last at
IsCoveredRun declared at (next ∷ passed) last =
    CoveredBy (declared next.point) next.env (declared at.point) at.env × IsCoveredRun declared next passed last

-- what holds at the end of a part of a run: where it goes on, these symbols are covered by the last set passed, and where it calls an operation, the last set passed matches it
abbrev pub IsCovered : SetsAt → Symbols → Place → Outcome → Type 0
IsCovered declared rest at (Calls passed op) = IsCoveredRun declared at passed (λ last. SetMatches declared last op)
IsCovered declared rest at (Answers passed values) = IsCoveredRun declared at passed (λ last. Unit {0})
IsCovered declared rest at (Goes passed env left) =
    IsCoveredRun declared at passed (λ last. CoveredBy rest env (declared last.point) last.env)
