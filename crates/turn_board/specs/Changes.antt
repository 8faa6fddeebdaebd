-- The counted contents are what the latest change of all seats left.
use Rattle.std.specs.Prelude.{◌≡◌, ℕ, List, Option}
use mathlib.Core.Option.{some}
use lib.ListN.{get_elem?}
use Rattle.turn_steps.specs.Table.{State}
use Rattle.turn_steps.specs.declared.view.View.{View}
use Rattle.turn_steps.specs.Tied.{Tied}

-- each seat of a state has its last change in the other state too
abbrev pub KeepsChanges : {V C : Type 0} → State (Option V) (View C) → State (Option V) (View C)
    → Type 0
KeepsChanges {V} {C} s t = (j : ℕ) (v : View C) → get_elem? s.views j ≡ some v
    → (w : View C) × (get_elem? t.views j ≡ some w) × (w.change ≡ v.change)

-- two states in which each seat has the same last change count the same contents
abbrev pub ChangesTell : {V C : Type 0} → (V → C) → (List C → List C → Type 0) → Type 0
ChangesTell {V} {C} content holds =
    (caller_count : ℕ) (s t : State (Option V) (View C)) (r : Tied content holds caller_count s)
    (q : Tied content holds caller_count t) → KeepsChanges s t → KeepsChanges t s
    → r.contents ≡ q.contents
