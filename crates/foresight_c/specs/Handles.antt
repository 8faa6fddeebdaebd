-- What the calls over a handle do.
use Rattle.std.specs.Prelude.{◌≡◌, ℕ, ◌⊎◌, Option, Some, None}
use Rattle.std.specs.declared.result.Result.TheVariants.{Err, Ok}
use Rattle.foresight_c.specs.declared.desk.Desk.{Desk}
use Rattle.foresight_c.specs.declared.values.CValue.{CValue}
use Rattle.foresight_c.specs.Numbers.{fine, wrong}
use Rattle.foresight_c.specs.Tickets.{OpensTables}

-- where the handle has a desk, it has one after the call of which this is so; else the call says
-- that there is none
abbrev pub OnDesk : Option Desk → Option Desk → ℕ → (Desk → Desk → Type 0) → Type 0
OnDesk None e n P = (e ≡ None) × (n ≡ wrong)
OnDesk (Some d) e n P = (x : Desk) × (e ≡ Some x) × P d x

-- the same, and a call over a handle without a desk tells no number
abbrev pub OnTold : Option Desk → Option Desk → ℕ → ℕ → ℕ → (Desk → Desk → Type 0) → Type 0
OnTold None e was out n P = OnDesk None e n P × (out ≡ was)
OnTold (Some d) e was out n P = OnDesk (Some d) e n P

-- the same of a call that tells a reply and another ticket
abbrev pub OnCalled : Option Desk → Option Desk → CValue → CValue → ℕ → ℕ → ℕ
    → (Desk → Desk → Type 0) → Type 0
OnCalled None e was out older_was older n P =
    OnDesk None e n P × (out ≡ was) × (older ≡ older_was)
OnCalled (Some d) e was out older_was older n P = OnDesk (Some d) e n P

-- the same of a call that leaves the desk as it is; over a handle without one this stays unwritten
abbrev pub OnStill : Option Desk → Option Desk → ℕ → Type 0 → (Desk → Type 0) → Type 0
OnStill None e n Unwritten P = (e ≡ None) × (n ≡ wrong) × Unwritten
OnStill (Some d) e n Unwritten P = (e ≡ Some d) × P d

-- a handle without a desk has one of empty tables, or none where numbers or memory don't suffice; a
-- handle with a desk keeps it
abbrev pub TablesOn : Option Desk → Option Desk → ℕ → ℕ → ℕ → Type 0
TablesOn (Some d) e maps sets n = (e ≡ Some d) × (n ≡ wrong)
TablesOn None e maps sets n =
    ((d : Desk) × (e ≡ Some d) × OpensTables maps sets (Ok d) × (n ≡ fine))
    ⊎ ((e ≡ None) × OpensTables maps sets (Err n))

-- the desk is gone from its handle
abbrev pub ClosesOn : Option Desk → Option Desk → ℕ → Type 0
ClosesOn (Some d) e n = (e ≡ None) × (n ≡ fine)
ClosesOn None e n = (e ≡ None) × (n ≡ wrong)
