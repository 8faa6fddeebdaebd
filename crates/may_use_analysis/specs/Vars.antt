-- The variables that symbols mention, and code that changes none of them. Only this crate's own
-- functions cite it.
use Rattle.std.specs.Prelude.{◌≡◌, ℕ, ◌≤◌, ◌⊎◌, List, Contains}
use Rattle.std.specs.Int.{bit_at}
use Rattle.symbolic_ops.specs.declared.arg.Arg.{Arg}
use Rattle.symbolic_ops.specs.declared.arg.Arg.TheVariants.{Known, Var, Any}
use Rattle.symbolic_ops.specs.declared.symbol.Symbol.{Symbol}
use Rattle.check_meaning.specs.Code.{Code, Finish, Move, Ask, Fork, Loop, Quit}

-- variables as bits; those from 64 on always count among them
abbrev pub IsMarked : ℕ → ℕ → Type 0
IsMarked bits x = (64 ≤ x) ⊎ (bit_at bits x ≡ 1)

abbrev pub IsUnmarked : ℕ → ℕ → Type 0
IsUnmarked bits x = IsMarked bits x → ⊥

abbrev pub IsArgMarked : ℕ → Arg → Type 0
IsArgMarked bits (Known v) = Unit {0}
IsArgMarked bits (Var x) = IsMarked bits x
IsArgMarked bits Any = Unit {0}

-- all variables that the symbol mentions are among these
abbrev pub Covers : ℕ → Symbol → Type 0
Covers bits s = IsArgMarked bits s.key × IsArgMarked bits s.value

abbrev pub AllCovered : ℕ → List Symbol → Type 0
AllCovered bits list = (s : Symbol) → Contains list s → Covers bits s

-- the code has no operation, no end, and no store to one of these variables
abbrev pub IsStill : ℕ → Code → Type 0
IsStill bits Finish = Unit {0}
IsStill bits (Move x e rest) = IsUnmarked bits x × IsStill bits rest
IsStill bits (Ask at p x c rest) = ⊥
IsStill bits (Fork at p q test a b rest) = IsStill bits a × IsStill bits b × IsStill bits rest
IsStill bits (Loop at p n x body rest) = IsUnmarked bits x × IsStill bits body × IsStill bits rest
IsStill bits (Quit es rest) = ⊥
