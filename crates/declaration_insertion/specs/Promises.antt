-- What the declarations of a handler promise of its runs.
use Rattle.std.specs.Prelude.{◌≡◌, ℕ, ◌≤◌, List, [], ◌∷◌, ◌++◌, length, map, slice_index_or}
use Rattle.std.specs.List.{AllByRecursion}
use Rattle.session_values.specs.Limits.{max_symbols}
use Rattle.session_values.specs.declared.value.Value.{Value}
use Rattle.session_values.specs.declared.op.Op.{Op}
use Rattle.session_values.specs.Dialogue.{Calls as NextCalls}
use Rattle.session_values.specs.Values.{IsValue}
use Rattle.symbolic_ops.specs.declared.arg.Arg.{Arg}
use Rattle.symbolic_ops.specs.declared.arg.Arg.TheVariants.{Known, Var, Any}
use Rattle.symbolic_ops.specs.declared.symbol.Symbol.{Symbol}
use Rattle.symbolic_ops.specs.Matching.{Covered, HasNoVar, Matches}
use Rattle.handler_check.specs.Code.{Code}
use Rattle.handler_check.specs.Dialogue.{Env, Place, Calls, run, next, entry, last_place, due_place, told_place, passed_by}

-- an argument, where a variable becomes known to be its value
abbrev pub arg_at : Env → Arg → Arg
arg_at env (Known v) = Known v
arg_at env (Var x) = Known (env x)
arg_at env Any = Any

-- a symbol with each variable known to be its value
abbrev pub symbol_at : Env → Symbol → Symbol
symbol_at env s = record {
  kind = s.kind;
  table = s.table;
  key = arg_at env s.key;
  value = arg_at env s.value;
}

-- the lists of a handler's points, by their numbers
abbrev pub Declarations : Type 0
Declarations = ℕ → List Symbol

-- the list of each point by its number, and an empty list behind the last
abbrev pub listed : List (List Symbol) → Declarations
listed lists p = slice_index_or lists p []

-- what is declared at a place: the list of its point with the values of the variables there
abbrev pub list_at : Declarations → Place → List Symbol
list_at declared at = map (symbol_at at.env) (declared at.point)

-- each declaration that is passed is covered by the one passed before it
abbrev pub IsCoveredChain : Declarations → Place → List Place → Type 0
IsCoveredChain declared at [] = Unit {0}
IsCoveredChain declared at (later ∷ passed) = Covered (list_at declared later)
    (list_at declared at) × IsCoveredChain declared later passed

-- whatever replies come that a program can hold, the list has a symbol for the operation that is
-- called after them
abbrev pub CoversRest : Code → Env → List Value → List Symbol → Type 0
CoversRest code env replies list =
    (more : List Value) (op : Op) → AllByRecursion IsValue more
    → next code env (replies ++ more) ≡ NextCalls op → Matches list op

-- What the declarations promise of each run from the handler's entry, with these values of the
-- parameters.
pub record ArePromised (code : Code) (declared : Declarations) (env : Env) : Type 0 where
  -- each has at most 256 symbols, and no variable
  pub few : (at : Place) → length (list_at declared at) ≤ max_symbols
  pub known : (at : Place) → AllByRecursion HasNoVar (list_at declared at)
  -- each is covered by the one before it
  pub covered : (replies : List Value) → IsCoveredChain declared (entry env)
      (passed_by (run code env replies))
  -- the operation that is called next is matched by the last one
  pub matched : (replies : List Value) (passed : List Place) (op : Op)
      → AllByRecursion IsValue replies → run code env replies ≡ Calls passed op
      → Matches (list_at declared (last_place (entry env) passed)) op
  -- each one that is passed covers the rest of the run
  pub covers : (replies : List Value) (front past : List Place) → AllByRecursion IsValue replies
      → passed_by (run code env replies) ≡ front ++ past
      → CoversRest code env replies (list_at declared (last_place (entry env) front))
  -- in particular that of the entry, the last one that a reply led to, and the last one
  pub opening : CoversRest code env [] (list_at declared (entry env))
  pub told : (replies : List Value) → AllByRecursion IsValue replies
      → CoversRest code env replies (list_at declared (told_place code env replies))
  pub due : (replies : List Value) → AllByRecursion IsValue replies
      → CoversRest code env replies (list_at declared (due_place code env replies))
