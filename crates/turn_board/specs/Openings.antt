-- A pass as a board is opened. Only this crate's own functions cite it.
use Rattle.std.specs.Prelude.{◌≡◌, ℕ, List, [], ◌∷◌}
use Rattle.turn_steps.specs.Seated.{TableId}
use Rattle.turn_steps.specs.Steps.{lost_at}
use Rattle.turn_steps.specs.Passes.{Token, IdleFirst}

-- nothing was asked for, lost or given back yet
pub record Unlost {V C : Type 0} (p : Token V C) : Type 0 where
  pub lost : (t : ℕ) → lost_at p.me.0 t ≡ 0
  pub given : p.me.0.given ≡ 0
  pub asks : p.me.0.asks ≡ 0
  pub givings : p.me.0.givings ≡ 0

-- the seat of the caller k of so many, with its opening note
pub record Fresh {V C : Type 0} (id : TableId) (caller_count : ℕ) (note : C) (change : ℕ × List C)
    (k : ℕ) (p : Token V C) : Type 0 where
  pub idle : IdleFirst id p
  pub unlost : Unlost p
  pub caller_count_is : p.me.0.caller_count ≡ caller_count
  pub speaks : p.me.0.speaks ≡ (k, note) ∷ []
  pub change_is : p.me.0.change ≡ change
