-- What a request declares at its handler's entry, and its acts.
use Rattle.std.specs.Prelude.{◌≡◌, ℕ, ◌<◌, List}
use Rattle.session_values.specs.declared.value.Value.{Value}
use Rattle.session_values.specs.Serial.{serve}
use Rattle.session_values.specs.Tables.{Tables}
use Rattle.symbolic_ops.specs.declared.symbol.Symbol.{Symbol}
use Rattle.handler_check.specs.Bounds.{adds_bound, calls_bound}
use Rattle.handler_check.specs.Dialogue.{entry, env_of, next}
use Rattle.handler_check.specs.Resolved.{code_at}
use Rattle.declaration_insertion.specs.Program.{ProgramView, declared_at}
use Rattle.declaration_insertion.specs.Promises.{list_at}
use Rattle.driven_tickets.specs.Acts.{Act, whole_ticket}
use Rattle.driven_tickets.specs.Commuting.{IsClear, IsHeldUpBy}
use Rattle.driven_tickets.specs.Desk.{TicketsView, last_number}
use Rattle.live_session.specs.declared.answers.Answered.{Answered}
use Rattle.live_session.specs.declared.answers.Answered.TheVariants as answered

-- what the handler of number h declares at its entry, with these arguments
abbrev pub entry_list : ProgramView → ℕ → List Value → List Symbol
entry_list p h args = list_at (declared_at p h) (entry (env_of args))

-- the acts of its run alone from these tables, as the ticket of this number: it begins with that
-- list, does its operations, and ends
abbrev pub acts_of : ProgramView → ℕ → ℕ → List Value → Tables → List Act
acts_of p n h args ts = whole_ticket n (entry_list p h args)
    (serve (calls_bound (code_at p.file h)) (next (code_at p.file h) (env_of args)) ts).entries

-- nothing is against it: what it declares commutes with all that open tickets have declared, and a
-- number is left
pub record IsAdmitted (p : ProgramView) (k : TicketsView) (h : ℕ) (args : List Value)
    : Type 0 where
  pub clear : IsClear k (entry_list p h args)
  pub numbered : k.next < last_number

-- why it isn't let run: an open ticket is in the way, no number is left, or memory ran out for keys
-- that it may add
abbrev pub IsHeldBack : ProgramView → TicketsView → ℕ → List Value → Answered → Type 0
IsHeldBack p k h args answered.Served = ⊥
IsHeldBack p k h args answered.Nothing = ⊥
IsHeldBack p k h args (answered.Refused e) = ⊥
IsHeldBack p k h args answered.TooManyNames = ⊥
IsHeldBack p k h args (answered.Delayed u) = IsHeldUpBy k (entry_list p h args) u
IsHeldBack p k h args answered.NoNumber =
    IsClear k (entry_list p h args) × (k.next ≡ last_number)
IsHeldBack p k h args answered.NoMemory = (t : ℕ) × (0 < adds_bound t (code_at p.file h))
