-- Runs of a handler on something that answers its operations.
use Rattle.std.specs.Prelude.{◌≡◌, Bool, false, List, [], ◌∷◌, ◌++◌}
use Rattle.session_values.specs.declared.kind.TableKind.{TableKind}
use Rattle.session_values.specs.declared.op.Op.{Op}
use Rattle.session_values.specs.declared.reply.Reply.{Reply}
use Rattle.session_values.specs.declared.value.Value.{Value}
use Rattle.session_values.specs.Dialogue.{Answers, Dialogue, Entry, Follows, replies}
use Rattle.check_meaning.specs.Ahead.{Ahead}
use Rattle.check_meaning.specs.Dialogue.{ended}
use Rattle.check_meaning.specs.Keeps.{CallsFit}

-- steps lead from one state to another, one for each entry in order
abbrev pub Steps : {H : Type 0} → (H → Op → Value → H → Type 0) → H → List Entry → H → Type 0
Steps step old [] new = new ≡ old
Steps step old (e ∷ es) new = (mid : _) × step old e.op e.reply mid × Steps step mid es new

-- A whole run: steps lead from one state to the other, their operations are those that the dialogue
-- calls after the replies before them, and after all replies it answers.
pub record Runs {H : Type 0} (step : H → Op → Value → H → Type 0) (f : Dialogue)
    (old new : H) (answer : Reply) : Type 0 where
  pub entries : List Entry
  pub steps : Steps step old entries new
  pub follows : Follows f entries
  pub answers : f (replies entries) ≡ Answers answer

-- A run that was broken off: steps lead from one state to the other, and their operations are those
-- that the dialogue calls after the replies before them.
pub record Breaks {H : Type 0} (step : H → Op → Value → H → Type 0) (f : Dialogue)
    (old new : H) : Type 0 where
  pub entries : List Entry
  pub steps : Steps step old entries new
  pub follows : Follows f entries

-- no call changes the kinds of the tables, and whether memory is never wanted
pub record Stays {H : Type 0} (shape : H → List TableKind) (sure : H → Bool)
    (old new : H) : Type 0 where
  pub same_shape : shape new ≡ shape old
  pub same_sure : sure new ≡ sure old

-- a run so far, and what is ahead of it
pub record Asked {H : Type 0} (step : H → Op → Value → H → Type 0) (shape : H → List TableKind)
    (sure : H → Bool) (whole : Ahead) (start now : H) (ahead : Ahead) : Type 0 where
  pub entries : List Entry
  pub steps : Steps step start entries now
  pub follows : Follows (λ rs. ended (whole rs)) entries
  pub is_ahead : (more : List Value) → ended (whole (replies entries ++ more)) ≡ ended (ahead more)
  pub fits : CallsFit (shape start) (λ rs. ended (ahead rs))
  pub stays : Stays shape sure start now

-- a run that stopped, since what answers isn't sure
pub record Stopped {H : Type 0} (step : H → Op → Value → H → Type 0) (shape : H → List TableKind)
    (sure : H → Bool) (whole : Ahead) (start now : H) : Type 0 where
  pub breaks : Breaks step (λ rs. ended (whole rs)) start now
  pub unsure : sure start ≡ false
  pub stays : Stays shape sure start now
