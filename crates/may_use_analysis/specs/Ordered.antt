-- Lists that have the symbols of a set.
use Rattle.std.specs.Prelude.{◌≡◌, ◌↔◌, ℕ, ◌≤◌, List, length, take, drop, All, Contains, Result, Ok, Err}
use Rattle.std.specs.declared.cmp.Ordering.TheVariants.{Less}
use Rattle.std.specs.List.Sorted.{IsStrictlySortedBy}
use Rattle.symbolic_ops.specs.Order.{symbol_cmp}
use Rattle.symbolic_ops.specs.declared.symbol.Symbol.{Symbol}
use Rattle.may_use_analysis.specs.Trails.{Symbols}

-- the list has the symbols of the set and no others
abbrev pub Are : List Symbol → Symbols → Type 0
Are list set = (s : Symbol) → Contains list s ↔ set s

-- the list has the symbols of the set and no others, in order and each once
abbrev pub Lists : List Symbol → Symbols → Type 0
Lists list set = IsStrictlySortedBy symbol_cmp list × Are list set

-- what a search in order found: that the symbol is there, or the place between the lesser ones and
-- the greater ones
abbrev pub IsSearched : List Symbol → Symbol → Result ℕ ℕ → Type 0
IsSearched list s (Ok i) = Contains list s
IsSearched list s (Err i) = (i ≤ length list)
    × (All (λ q. symbol_cmp q s ≡ Less) (take i list)
    × All (λ q. symbol_cmp s q ≡ Less) (drop i list))
