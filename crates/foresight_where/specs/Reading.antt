-- What reading leaves, for this crate's functions alone: all was read, or why it stopped.
use Rattle.std.specs.Prelude.{◌≡◌, ℕ, ◌+◌, ◌<◌, ◌≤◌, List, length, Option, IfSome}
use Rattle.byte_ends.specs.Ends.{IsAtEnd, ConsumedAtMost, IsRaised}
use Rattle.foresight_where.specs.declared.ending.Ending.{Ending}
use Rattle.foresight_where.specs.declared.ending.Ending.TheVariants.{Reported, HandedOn, Usage, NoMemory, ReadFault, TooLarge, WriteFault}
use Rattle.foresight_where.specs.Endings.{most}

-- All that there was is read, which is at most so many bytes, nothing is left, and no read failed.
-- Old is what there was, and new what is left; before and now, how often a read had failed and has.
pub record HasRead (old new : Option (List ℕ)) (before now : ℕ) (bytes : List ℕ) : Type 0 where
  pub short : length bytes ≤ most
  pub all : IfSome old (λ all. bytes ≡ all)
  pub end : IsAtEnd old new
  pub lost : ConsumedAtMost old new (most + 1)
  pub well : now ≡ before

-- why a reading that ended so stopped: there was more, a read failed, or memory was wanting
abbrev pub StopsAs : Option (List ℕ) → ℕ → ℕ → Ending → Type 0
StopsAs old before now TooLarge = IfSome old (λ all. most < length all) × (now ≡ before)
StopsAs old before now ReadFault = IsRaised before now
StopsAs old before now NoMemory = now ≡ before
StopsAs old before now Reported = ⊥
StopsAs old before now HandedOn = ⊥
StopsAs old before now Usage = ⊥
StopsAs old before now WriteFault = ⊥

-- and no more than one byte above the bound is gone
abbrev pub StoppedAs : Option (List ℕ) → Option (List ℕ) → ℕ → ℕ → Ending → Type 0
StoppedAs old new before now e = ConsumedAtMost old new (most + 1) × StopsAs old before now e
