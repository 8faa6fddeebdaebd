-- Names that are kept, and the values that move with them. Only this crate's own functions cite it.
use Rattle.std.specs.Prelude.{◌≡◌, ℕ, zero, suc, ◌⊎◌, Bool, true, false, List, [], ◌∷◌, map, slice_index_or, slice_set}
use Rattle.session_values.specs.declared.value.Value.{Value}
use Rattle.session_values.specs.declared.value.Value.TheVariants.{Nil, Num, Sym}
use Rattle.session_values.specs.Opening.{Pair}
use Rattle.text_lines.specs.Text.{Text}

-- ---- a flag for each name: whether it is kept

-- with that of the name that a value is
abbrev pub marked : List Bool → Value → List Bool
marked flags Nil = flags
marked flags (Num n) = flags
marked flags (Sym p) = slice_set flags p true

-- with those of the first n names
abbrev pub marked_first : List Bool → ℕ → List Bool
marked_first flags zero = flags
marked_first flags (suc n) = marked (marked_first flags n) (Sym n)

-- with those of all keys and values of some entries
abbrev pub marked_by : List Bool → List Pair → List Bool
marked_by flags [] = flags
marked_by flags (e ∷ es) = marked_by (marked (marked flags e.0) e.1) es

-- the same of the entries of some tables
abbrev pub marked_by_all : List Bool → List (List Pair) → List Bool
marked_by_all flags [] = flags
marked_by_all flags (es ∷ lists) = marked_by_all (marked_by flags es) lists

-- the flag of a name
abbrev pub flag : List Bool → ℕ → Bool
flag flags i = slice_index_or flags i false

-- ---- kept names

-- the names whose flags are set, in their order
abbrev pub kept : List Bool → List Text → List Text
kept [] names = []
kept (b ∷ flags) [] = []
kept (true ∷ flags) (t ∷ names) = t ∷ kept flags names
kept (false ∷ flags) (t ∷ names) = kept flags names

-- how many of the first i flags are set
abbrev pub set_before : ℕ → List Bool → ℕ
set_before zero flags = 0
set_before (suc i) [] = 0
set_before (suc i) (true ∷ flags) = suc (set_before i flags)
set_before (suc i) (false ∷ flags) = set_before i flags

-- a key or a value of some entries is this name
abbrev pub HasName : List Pair → ℕ → Type 0
HasName [] i = ⊥
HasName (e ∷ es) i = ((e.0 ≡ Sym i) ⊎ (e.1 ≡ Sym i)) ⊎ HasName es i

-- ---- values, whose names have other places
abbrev pub moved : (ℕ → ℕ) → Value → Value
moved f Nil = Nil
moved f (Num n) = Num n
moved f (Sym p) = Sym (f p)

abbrev pub moved_pair : (ℕ → ℕ) → Pair → Pair
moved_pair f e = (moved f e.0, moved f e.1)

abbrev pub moved_entries : (ℕ → ℕ) → List Pair → List Pair
moved_entries f es = map (moved_pair f) es

-- the place that a list gives for each name
abbrev pub place_in : List ℕ → ℕ → ℕ
place_in places = λ p. slice_index_or places p 0
