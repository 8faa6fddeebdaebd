-- A source or a sink before and after a call, and what it took of a text.
use Rattle.std.specs.Prelude.{◌≡◌, ℕ, List, Option}
use Rattle.byte_ends.specs.Ends.{IsRaised, Appended, AppendedPrefix}

-- A source or a sink before and after a call: the bytes that it tells, and how often it failed.
pub record Change (S : Type 0) : Type 0 where
  pub bytes : S → Option (List ℕ)
  pub faults : S → ℕ
  pub old : S
  pub new : S

-- the change from old to new, where these tell the bytes and how often it failed
abbrev pub change : {S : Type 0} → (S → Option (List ℕ)) → (S → ℕ) → S → S → Change S
change bytes faults old new = record { bytes = bytes; faults = faults; old = old; new = new }

-- it failed once, or its count of faults stands at its type's end
abbrev pub Failed : {S : Type 0} → Change S → Type 0
Failed c = IsRaised (c.faults c.old) (c.faults c.new)

-- it didn't fail
abbrev pub HasNotFailed : {S : Type 0} → Change S → Type 0
HasNotFailed c = c.faults c.new ≡ c.faults c.old

-- it is as before
abbrev pub IsUntouched : {S : Type 0} → Change S → Type 0
IsUntouched c = c.new ≡ c.old

-- a sink took all of the text, and no write failed
abbrev pub WroteAll : {S : Type 0} → Change S → List ℕ → Type 0
WroteAll c text = HasNotFailed c × Appended (c.bytes c.old) (c.bytes c.new) text

-- a sink took a front of the text
abbrev pub WrotePrefix : {S : Type 0} → Change S → List ℕ → Type 0
WrotePrefix c text = AppendedPrefix (c.bytes c.old) (c.bytes c.new) text
