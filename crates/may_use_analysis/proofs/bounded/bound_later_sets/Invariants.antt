use Rattle.std.proofs.Common.{◌≡◌, ℕ, ◌<◌, List, length, []}
use Rattle.std.specs.Prelude.{slice_index_or}
use Rattle.symbolic_ops.specs.declared.symbol.Symbol.{Symbol}
use Rattle.handler_check.specs.Resolved.{code_at}
use Rattle.may_use_analysis.specs.Later.{HasLists}
use Rattle.may_use_analysis.proofs.bounded.bound_later_sets.Given as goal

abbrev pub invariant-loop-h : goal.invariant-loop-h
invariant-loop-h l = (all : List (List (List Symbol))) × (length all ≡ l.h) × ((k : ℕ) → k < l.h → HasLists (code_at l.accepted k) (slice_index_or all k []))
