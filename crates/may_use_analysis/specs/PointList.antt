-- What is kept of the list of a point.
use Rattle.std.specs.Prelude.{◌≡◌, ℕ, ◌<◌, ◌≤◌, List, [], length, map, Option, Some, None, slice_index_or}
use Rattle.session_values.specs.Limits.{max_symbols}
use Rattle.symbolic_ops.specs.declared.symbol.Symbol.{Symbol}
use Rattle.may_use_analysis.specs.declared.kept.Kept.{Kept}
use Rattle.may_use_analysis.specs.declared.kept.Kept.TheVariants.{Own, Same, Short, Count}
use Rattle.may_use_analysis.specs.Ordered.{Lists}
use Rattle.may_use_analysis.specs.Trails.{Symbols}

-- the list of a point, that it has at most `max_symbols` symbols, or how many it has
pub data PointList : Type 0 where
  Listed : (list : List Symbol) → PointList
  Unlisted : PointList
  Counted : (count : ℕ) → PointList

-- the list with the symbols of the set where these are at most `max_symbols`, and else their count
abbrev pub IsPointList : PointList → Symbols → Type 0
IsPointList (Listed list) set = Lists list set × (length list ≤ max_symbols)
IsPointList Unlisted set = (list : List Symbol) × Lists list set × (length list ≤ max_symbols)
IsPointList (Counted count) set = (list : List Symbol) × Lists list set × (count ≡ length list)
    × (max_symbols < count)

-- what is kept of a list
abbrev pub IsPointListOf : List Symbol → PointList → Type 0
IsPointListOf list (Listed kept) = (kept ≡ list) × (length list ≤ max_symbols)
IsPointListOf list Unlisted = length list ≤ max_symbols
IsPointListOf list (Counted count) = (count ≡ length list) × (max_symbols < count)

-- the list that is kept, and the count that is kept in its place
abbrev pub list_in : PointList → List Symbol
list_in (Listed list) = list
list_in Unlisted = []
list_in (Counted count) = []

abbrev pub count_in : PointList → Option ℕ
count_in (Listed list) = None
count_in Unlisted = None
count_in (Counted count) = Some count

-- the list is kept, or its length where it is too long
abbrev pub IsKept : PointList → Type 0
IsKept (Listed list) = Unit {0}
IsKept Unlisted = ⊥
IsKept (Counted count) = Unit {0}

abbrev pub AreKept : List PointList → Type 0
AreKept lists = (i : ℕ) → i < length lists → IsKept (slice_index_or lists i (Counted 0))

-- ---- how it is held: a list that was kept before is held once

-- the list that an entry holds itself
abbrev pub own_list : Kept → List Symbol
own_list (Own list) = list
own_list (Same k) = []
own_list Short = []
own_list (Count n) = []

-- an entry that holds a list or refers to one, or has its length where it is too long
abbrev pub IsHeld : Kept → Type 0
IsHeld (Own list) = Unit {0}
IsHeld (Same k) = Unit {0}
IsHeld Short = ⊥
IsHeld (Count n) = Unit {0}

-- what an entry stands for: its own list, or that of an earlier one
abbrev pub point_list_of : List Kept → Kept → PointList
point_list_of entries (Own list) = Listed list
point_list_of entries (Same k) = Listed (own_list (slice_index_or entries k (Count 0)))
point_list_of entries Short = Unlisted
point_list_of entries (Count n) = Counted n

-- the entry at a place of these holds the list itself
abbrev pub IsHeldAt : List Kept → List Symbol → ℕ → Type 0
IsHeldAt entries list k = (k < length entries)
    × (own_list (slice_index_or entries k (Count 0)) ≡ list)

abbrev pub point_lists : List Kept → List PointList
point_lists entries = map (point_list_of entries) entries

-- an entry at this place refers to an earlier one
abbrev pub RefersBack : ℕ → Kept → Type 0
RefersBack i (Own list) = Unit {0}
RefersBack i (Same k) = k < i
RefersBack i Short = Unit {0}
RefersBack i (Count n) = Unit {0}

abbrev pub AllReferBack : List Kept → Type 0
AllReferBack entries = (i : ℕ) (d : Kept) → i < length entries
    → RefersBack i (slice_index_or entries i d)
