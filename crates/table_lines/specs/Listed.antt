-- Tables whose entries are listed.
use Rattle.std.specs.Prelude.{◌≡◌, ℕ, List, [], ◌∷◌, map as map_list}
use Rattle.std.specs.FinMap as map
use Rattle.std.specs.List.{AllByRecursion}
use Rattle.std.specs.declared.cmp.Ordering.TheVariants.{Less}
use Rattle.session_values.specs.Opening.{Pair}
use Rattle.session_values.specs.ReplyText.{IsPrintable}
use Rattle.session_values.specs.declared.kind.TableKind.{TableKind}
use Rattle.session_values.specs.declared.kind.TableKind.TheVariants.{Map, Set}
use Rattle.table_lines.specs.TableText.{Entry, WrittenTable, WrittenMap, WrittenSet, entry_of, member, told}
use Rattle.table_lines.specs.Written.{Written, written, written_cmp}

-- a key and its value, as they are written
abbrev pub WrittenPair : Type 0
WrittenPair = Written × Written

abbrev pub written_pair : List (List ℕ) → Pair → WrittenPair
written_pair names e = (written names e.0, written names e.1)

-- the table of this kind with these entries
abbrev pub written_of : TableKind → List WrittenPair → WrittenTable
written_of Map ps = WrittenMap (map.from_entries ps)
written_of Set ps =
    WrittenSet (map.from_entries (map_list (λ (p : WrittenPair). member p.0) ps))

-- these entries of a table of this kind and this name
abbrev pub entries_told : List ℕ → TableKind → List WrittenPair → List Entry
entries_told name kind ps = map_list (λ (p : WrittenPair). entry_of name p.0 (told kind p.1)) ps

-- each key stands before those behind it
abbrev pub AreRising : List Written → Type 0
AreRising [] = Unit {0}
AreRising (k ∷ ks) = AllByRecursion (λ (l : Written). written_cmp k l ≡ Less) ks × AreRising ks

-- the keys of some entries
abbrev pub keys_of : {X : Type 0} → List (Written × X) → List Written
keys_of es = map_list (λ e. e.0) es

-- the keys have texts where they are symbols
abbrev pub HavePrintableKeys : List (List ℕ) → List Pair → Type 0
HavePrintableKeys names es = AllByRecursion (λ (e : Pair). IsPrintable names e.0) es
