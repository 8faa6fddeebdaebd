-- What reads and writes do, at sources and sinks that may tell their bytes.
use Rattle.std.specs.Prelude.{◌≡◌, ℕ, ◌+◌, ◌-◌, ◌<◌, ◌≤◌, ◌^◌, min, Bool, true, false, List, [], ◌++◌, length, take, drop, Option, Some, IfSome}
use Rattle.byte_ends.specs.declared.source.Got.{Got}
use Rattle.byte_ends.specs.declared.source.Got.TheVariants as got
use Rattle.byte_ends.specs.declared.reading.Unread.{Unread}
use Rattle.byte_ends.specs.declared.reading.Unread.TheVariants as unread
use Rattle.byte_ends.specs.declared.sink.Put.{Put}
use Rattle.byte_ends.specs.declared.sink.Put.TheVariants as put

-- one more, up to the largest u64
abbrev pub raised : ℕ → ℕ
raised count = min (count + 1) (2 ^ 64 - 1)

-- a count rose by one, or stands at the largest u64
abbrev pub IsRaised : ℕ → ℕ → Type 0
IsRaised before now = now ≡ raised before

-- how often a source or a sink failed: as often as before where all went well, and else once more
abbrev pub Counted : Bool → ℕ → ℕ → Type 0
Counted well before now = (well ≡ true → now ≡ before) × (well ≡ false → IsRaised before now)

-- so it is with a read that answers this
abbrev pub ReadCounts : ℕ → ℕ → Got → Type 0
ReadCounts before now (got.Bytes n) = now ≡ before
ReadCounts before now got.End = now ≡ before
ReadCounts before now got.Failed = IsRaised before now

-- and with a write
abbrev pub WriteCounts : ℕ → ℕ → Put → Type 0
WriteCounts before now (put.Took n) = now ≡ before
WriteCounts before now put.Failed = IsRaised before now

-- and with the reading of a whole source that didn't come to its end
abbrev pub UnreadCounts : ℕ → ℕ → Unread → Type 0
UnreadCounts before now unread.TooLarge = now ≡ before
UnreadCounts before now unread.Failed = IsRaised before now
UnreadCounts before now unread.NoMemory = now ≡ before

-- what is told stands as it was
abbrev pub Stays : Option (List ℕ) → Option (List ℕ) → Type 0
Stays old new = IfSome old (λ bytes. new ≡ Some bytes)

-- the next n of the old bytes stand at the front of the buffer, and the others are left
pub record Gave (old : List ℕ) (new : Option (List ℕ)) (n : ℕ) (buf : List ℕ) : Type 0 where
  pub within : n ≤ length old
  pub bytes : take n buf ≡ take n old
  pub rest : new ≡ Some (drop n old)

-- what a read gave, where old and new are what was left before and is left now
abbrev pub ReadGives : Option (List ℕ) → Option (List ℕ) → List ℕ → Got → Type 0
ReadGives old new buf (got.Bytes n) = (0 < n) × (n ≤ length buf)
    × IfSome old (λ bytes. Gave bytes new n buf)
ReadGives old new buf got.End = Stays old new × IfSome old (λ bytes. bytes ≡ [])
ReadGives old new buf got.Failed = Stays old new

-- what a write took, where old and new are what was held before and is held now
abbrev pub WriteTakes : Option (List ℕ) → Option (List ℕ) → List ℕ → Put → Type 0
WriteTakes old new bytes (put.Took n) = (0 < n) × (n ≤ length bytes)
    × IfSome old (λ held. new ≡ Some (held ++ take n bytes))
WriteTakes old new bytes put.Failed = Stays old new

-- all that was left is gone, where it is told
abbrev pub IsAtEnd : Option (List ℕ) → Option (List ℕ) → Type 0
IsAtEnd old new = IfSome old (λ _. new ≡ Some [])

-- the first n of the bytes that were left are gone, and no others, where they are told
abbrev pub Consumed : Option (List ℕ) → Option (List ℕ) → ℕ → Type 0
Consumed old new n = IfSome old (λ bytes. new ≡ Some (drop n bytes))

-- so many of the first bytes at most are gone, and no others, where they are told
abbrev pub ConsumedAtMost : Option (List ℕ) → Option (List ℕ) → ℕ → Type 0
ConsumedAtMost old new most = IfSome old (λ bytes. (n : ℕ) × (n ≤ most) × (n ≤ length bytes)
    × (new ≡ Some (drop n bytes)))

-- what is held grew by these bytes, where it is told
abbrev pub Appended : Option (List ℕ) → Option (List ℕ) → List ℕ → Type 0
Appended old new bytes = IfSome old (λ held. new ≡ Some (held ++ bytes))

-- what is held grew by a front of these bytes, where it is told
abbrev pub AppendedPrefix : Option (List ℕ) → Option (List ℕ) → List ℕ → Type 0
AppendedPrefix old new bytes = IfSome old (λ held. (n : ℕ) × (n ≤ length bytes)
    × (new ≡ Some (held ++ take n bytes)))
