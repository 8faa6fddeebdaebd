-- The dialogue of a ticket with the tables: what it does next, after the replies so far.
use Rattle.std.specs.Prelude.{◌≡◌, ℕ, ◌≤◌, List, [], ◌∷◌, ◌++◌, length}
use Rattle.session_values.specs.declared.value.Value.{Value}
use Rattle.session_values.specs.declared.op.Op.{Op}
use Rattle.session_values.specs.declared.reply.Reply.{Reply}

-- what a ticket does next: it calls an operation, or it answers
pub data Next : Type 0 where
  Calls : Op → Next
  Answers : Reply → Next

-- what a ticket does next after any list of replies
abbrev pub Dialogue : Type 0
Dialogue = List Value → Next

-- the dialogue after these replies
abbrev pub rest : Dialogue → List Value → Dialogue
rest f replies more = f (replies ++ more)

-- an operation that was done, and its reply
pub record Entry : Type 0 where
  pub op : Op
  pub reply : Value

-- the replies of a list of entries
abbrev pub replies : List Entry → List Value
replies [] = []
replies (e ∷ es) = e.reply ∷ replies es

-- each operation is the one that the dialogue calls after the replies before it
abbrev pub Follows : Dialogue → List Entry → Type 0
Follows f [] = Unit {0}
Follows f (e ∷ es) = (f [] ≡ Calls e.op) × Follows (rest f (e.reply ∷ [])) es

-- after that many replies, whatever they are, the dialogue has answered
pub record EndsBy (n : ℕ) (f : Dialogue) : Type 0 where
  pub answers : (replies : List Value) → n ≤ length replies → (r : Reply) × (f replies ≡ Answers r)
