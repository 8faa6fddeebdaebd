-- The first handler that may do too much, as a walk over resolved handlers finds it. Only this
-- crate's own functions cite it.
use Rattle.std.specs.Prelude.{◌≡◌, ℕ, nat_lt, List, [], ◌∷◌, None}
use Rattle.std.specs.List.{AllZip}
use Rattle.session_values.specs.Limits.{max_calls, max_work}
use Rattle.syntax_trees.specs.declared.file.Handler.{Handler}
use Rattle.check_meaning.specs.declared.tree.CheckedHandler.{CheckedHandler}
use Rattle.check_meaning.specs.Bounds.{calls_bound, work_bound}
use Rattle.check_meaning.specs.Code.{Code, block_code}
use Rattle.handler_check.specs.declared.refusal.CheckRefusal.TheVariants.{TooManyCalls, TooMuchWork}
use Rattle.handler_check.specs.Scan.{Fault, or_else, fault_if}
use Rattle.handler_check.specs.Resolved.{IsResolved}

-- a handler with this code, at this place: its calls are looked at before its work
abbrev pub code_excess : Code → ℕ → Fault
code_excess code at = or_else (fault_if (nat_lt max_calls (calls_bound code)) (TooManyCalls at))
    (fault_if (nat_lt max_work (work_bound code)) (TooMuchWork at))

-- the same of a resolved handler
abbrev pub own_excess : CheckedHandler → Fault
own_excess c = code_excess (block_code c.body) c.at

-- the first of these that may do too much
abbrev pub excess : List CheckedHandler → Fault
excess [] = None
excess (c ∷ cs) = or_else (own_excess c) (excess cs)

-- the same of handlers that are resolved where the tables have these names
abbrev pub IsExcessOf : List ℕ → List Handler → Fault → Type 0
IsExcessOf tables hs fault = (cs : List CheckedHandler) × AllZip (IsResolved tables) hs cs
    × (excess cs ≡ fault)
