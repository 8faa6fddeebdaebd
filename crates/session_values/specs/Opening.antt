-- The tables with which a session opens, as lists of entries.
use Rattle.std.specs.Prelude.{◌≡◌, ℕ, zero, suc, ◌+◌, ◌<◌, ◌≤◌, ◌^◌, List, [], ◌∷◌, ◌++◌, length, map as map_list, slice_set, Bool, false}
use Rattle.std.specs.List.{AllByRecursion, list_any}
use Rattle.std.specs.FinMap as map
use Rattle.std.specs.FinSet as set
use Rattle.session_values.specs.declared.value.Value.{Value}
use Rattle.session_values.specs.declared.value.Value.TheVariants.{Nil}
use Rattle.session_values.specs.declared.kind.TableKind.{TableKind}
use Rattle.session_values.specs.declared.kind.TableKind.TheVariants.{Map, Set}
use Rattle.session_values.specs.Tables.{Container, Bindings, Members, Tables}
use Rattle.session_values.specs.Values.{IsValue, value_eq}
use Rattle.session_values.specs.OpeningLimits.{max_opening}

-- ---- tables with entries

-- a key and what it is bound to; of a member nil
abbrev pub Pair : Type 0
Pair = Value × Value

-- a container of this kind with these entries
abbrev pub container_of : TableKind → List Pair → Container
container_of Map es = Bindings (map.from_entries es)
container_of Set es = Members (set.from_list (map_list (λ (e : Pair). e.0) es))

-- tables of these kinds with these entries; where no list is left, a table is empty
abbrev pub tables_of : List TableKind → List (List Pair) → Tables
tables_of [] lists = []
tables_of (kind ∷ shape) [] = container_of kind [] ∷ tables_of shape []
tables_of (kind ∷ shape) (es ∷ lists) = container_of kind es ∷ tables_of shape lists

-- the entries of table i
abbrev pub entries_of : List (List Pair) → ℕ → List Pair
entries_of [] i = []
entries_of (es ∷ lists) zero = es
entries_of (es ∷ lists) (suc i) = entries_of lists i

-- no entries, for each table
abbrev pub no_entries : List TableKind → List (List Pair)
no_entries shape = map_list (λ (kind : TableKind). []) shape

-- how many entries there are in all
abbrev pub count_all : List (List Pair) → ℕ
count_all [] = 0
count_all (es ∷ lists) = length es + count_all lists

-- whether an entry has this key
abbrev pub has_key : List Pair → Value → Bool
has_key es key = list_any (λ (e : Pair). value_eq key e.0) es

-- the lists with an entry at the end of those of table i
abbrev pub with_entry : List (List Pair) → ℕ → Pair → List (List Pair)
with_entry lists i e = slice_set lists i (entries_of lists i ++ e ∷ [])

-- ---- what tables may open with

-- a program can hold the key and the value, which is nil for a member
abbrev pub IsEntry : TableKind → Pair → Type 0
IsEntry Map e = IsValue e.0 × IsValue e.1
IsEntry Set e = IsValue e.0 × (e.1 ≡ Nil)

-- no key stands twice
abbrev pub AreApart : List Pair → Type 0
AreApart [] = Unit {0}
AreApart (e ∷ es) = (has_key es e.0 ≡ false) × AreApart es

-- a list for each table, of entries that it may have, each key once
abbrev pub AreEntries : List TableKind → List (List Pair) → Type 0
AreEntries [] [] = Unit {0}
AreEntries [] (es ∷ lists) = ⊥
AreEntries (kind ∷ shape) [] = ⊥
AreEntries (kind ∷ shape) (es ∷ lists) =
    (AllByRecursion (IsEntry kind) es × AreApart es) × AreEntries shape lists

-- tables of these kinds may open with these entries
pub record IsOpening (shape : List TableKind) (lists : List (List Pair)) : Type 0 where
  pub entries : AreEntries shape lists
  pub few : count_all lists ≤ max_opening

-- ---- what is kept whatever the kinds

-- a program can hold the key and the value
abbrev pub IsPair : Pair → Type 0
IsPair e = IsValue e.0 × IsValue e.1

-- the keys of a table differ, and a program can hold them and their values
abbrev pub IsList : List Pair → Type 0
IsList es = AllByRecursion IsPair es × AreApart es

-- so of each table, and few tables and entries in all
pub record AreKept (lists : List (List Pair)) : Type 0 where
  pub each : AllByRecursion IsList lists
  pub tables : length lists < 2 ^ 32
  pub few : count_all lists ≤ max_opening

-- a list for each table, and nil as the value of each member of a set
abbrev pub HaveNil : List TableKind → List (List Pair) → Type 0
HaveNil [] [] = Unit {0}
HaveNil [] (es ∷ lists) = ⊥
HaveNil (kind ∷ shape) [] = ⊥
HaveNil (Map ∷ shape) (es ∷ lists) = HaveNil shape lists
HaveNil (Set ∷ shape) (es ∷ lists) = AllByRecursion (λ e. e.1 ≡ Nil) es × HaveNil shape lists
