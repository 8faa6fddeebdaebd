-- The operations that a symbol delays. Only this crate's own functions cite it.
use Rattle.std.specs.Prelude.{◌≡◌, ◌⊎◌, List, [], ◌∷◌, Contains}
use Rattle.std.specs.List.{All}
use Rattle.symbolic_ops.specs.declared.symbol.Symbol.{Symbol}
use Rattle.waiting_pairs.specs.declared.asked.Asked.{Asked}
use Rattle.waiting_pairs.specs.declared.known.Known.{Known}
use Rattle.waiting_pairs.specs.Delays.{Delays}

-- the second list has those of the first that the symbol delays, and no others, in the same order
abbrev pub Chosen : Symbol → List Asked → List Asked → Type 0
Chosen s [] found = found ≡ []
Chosen s (a ∷ asked) found =
    (Delays s a.op × ((rest : List Asked) × Chosen s asked rest × (found ≡ a ∷ rest)))
    ⊎ ((Delays s a.op → ⊥) × Chosen s asked found)

-- each operation is one of these
abbrev pub AreAmong : List Symbol → List Asked → Type 0
AreAmong ops asked = All (λ a. Contains ops a.op) asked

-- what is known of these operations
pub record IsKnown (asked : List Asked) (k : Known) : Type 0 where
  pub asked_is : k.asked.items ≡ asked
  pub ops : AreAmong k.ops.items asked
  -- Beside each symbol that was looked up stand those that it delays.
  pub lists : All (λ e. Chosen e.0.symbol asked e.1.items) k.lists.entries
