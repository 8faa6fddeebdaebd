use Rattle.std.proofs.Common.{◌≡◌, ◌<◌, ℕ, Some, slice_get}
use Rattle.syntax_trees.specs.declared.file.Handler.{Handler}
use Rattle.handler_check.proofs.checked.Checked.find.Given as goal

abbrev pub invariant-loop-h : goal.invariant-loop-h
invariant-loop-h l = (k : ℕ) (source : Handler) → k < l.h → slice_get l.handlers k ≡ Some source → source.name ≡ l.name → ⊥
