-- What the opening of a file gives, and how its faults are counted.
use Rattle.std.specs.Prelude.{◌≡◌, ℕ, ⊤, List, [], Option, Some, None, IfSome}
use Rattle.byte_ends.specs.Ends.{IsRaised}
use Rattle.standard_streams.specs.declared.opens_files.Opened.{Opened}
use Rattle.standard_streams.specs.declared.opens_files.Opened.TheVariants.{Open, Failed, NoMemory}

-- a file that is open is at its beginning: all its bytes are left, where they are told
abbrev pub OpenGives : Option (List ℕ) → Option (List ℕ) → Opened → Type 0
OpenGives bytes left Open = IfSome bytes (λ all. left ≡ Some all)
OpenGives bytes left Failed = ⊤
OpenGives bytes left NoMemory = ⊤

-- an opening that failed is one fault more
abbrev pub OpenCounts : ℕ → ℕ → Opened → Type 0
OpenCounts before now Open = now ≡ before
OpenCounts before now Failed = IsRaised before now
OpenCounts before now NoMemory = now ≡ before

-- what is left of the file that is open, where that is told; where none is open, nothing is left
abbrev pub left_of : {F : Type 0} → (F → Option (List ℕ)) → Option F → Option (List ℕ)
left_of remaining None = Some []
left_of remaining (Some file) = remaining file
