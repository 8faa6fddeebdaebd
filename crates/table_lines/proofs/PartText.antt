-- The lines of sorted entries are the table's part of the text of tables.
use Rattle.std.proofs.Common.{◌≡◌, ℕ, ◌<◌, List, [], ◌∷◌, ◌++◌, map as map_list, length, get_or, refl, sym, ◌∙◌, ap}
use Rattle.std.proofs.lemmas.List.Elements.{All-from_recursion, recursion_from_All}
use Rattle.std.proofs.lemmas.List.Sorted.{All-permutation}
use Rattle.std.specs.List.{AllByRecursion}
use Rattle.std.specs.List.Sorted.{IsPermutation}
use Rattle.session_values.specs.Opening.{Pair}
use Rattle.session_values.specs.Names.{AreDistinct}
use Rattle.session_values.specs.Tables.{Container}
use Rattle.session_values.specs.declared.kind.TableKind.{TableKind}
use Rattle.session_values.specs.declared.kind.TableKind.TheVariants.{Map, Set}
use Rattle.table_lines.specs.Listed.{HavePrintableKeys, WrittenPair, entries_told, written_pair}
use Rattle.table_lines.specs.TableText.{WrittenTable, entries_in, entries_text, written_table}
use Rattle.table_lines.specs.Written.{text_at}
use Rattle.table_lines.proofs.Listing.{entries_sorted, written_is}
use Rattle.table_lines.specs.Dumped.{AreInOrder, CanDump, IsPrintableEntry, part_text}
use Rattle.table_lines.specs.Lines.{line_of, lines_of}
use Rattle.table_lines.proofs.Apart.{apart_again, same_container}
use Rattle.table_lines.proofs.Rising.{keys_rise}

pub printable_again : (names : List (List ℕ)) (kind : TableKind) (xs ys : List Pair) → IsPermutation xs ys → AllByRecursion (IsPrintableEntry names kind) xs → AllByRecursion (IsPrintableEntry names kind) ys
printable_again names kind xs ys p h = recursion_from_All (IsPrintableEntry names kind) ys (All-permutation (IsPrintableEntry names kind) xs ys p (All-from_recursion (IsPrintableEntry names kind) xs h))

-- the entry at a place is printable
pub printable_at : (names : List (List ℕ)) (kind : TableKind) (es : List Pair) (i : ℕ) (d : Pair) → i < length es → AllByRecursion (IsPrintableEntry names kind) es → IsPrintableEntry names kind (get_or es i d)
printable_at names kind es i d lt h = All-from_recursion (IsPrintableEntry names kind) es h i d lt

keys_printable : (names : List (List ℕ)) (kind : TableKind) (es : List Pair) → AllByRecursion (IsPrintableEntry names kind) es → HavePrintableKeys names es
keys_printable names kind [] h = tt
keys_printable names Map (e ∷ es) h = (h.0.0, keys_printable names Map es h.1)
keys_printable names Set (e ∷ es) h = (h.0, keys_printable names Set es h.1)

told_lines : (names : List (List ℕ)) (table : ℕ) (kind : TableKind) (es : List Pair) → entries_text (entries_told (text_at names table) kind (map_list (written_pair names) es)) ≡ lines_of names table kind es
unfolding lines_of
told_lines names table kind [] = refl
told_lines names table kind (e ∷ es) = ap (λ (t : List ℕ). line_of names table kind e ++ t) (told_lines names table kind es)

-- where the same entries stand in order, their lines are the part
pub sorted_part : (names : List (List ℕ)) (table : ℕ) (kind : TableKind) (xs ys : List Pair) → AreDistinct names → CanDump names kind xs → IsPermutation xs ys → AreInOrder names ys → lines_of names table kind ys ≡ part_text names table kind xs
sorted_part names table kind xs ys d c p s =
    let name : List ℕ = text_at names table in
    let pairs : List WrittenPair = map_list (written_pair names) ys in
    let printable : HavePrintableKeys names ys = keys_printable names kind ys (printable_again names kind xs ys p c.printable) in
    sym (told_lines names table kind ys)
    ∙ ap entries_text (sym (entries_sorted name kind pairs (keys_rise names d ys printable (apart_again xs ys p c.apart) s)))
    ∙ ap (λ (t : WrittenTable). entries_text (entries_in name t)) (sym (written_is names kind ys d printable))
    ∙ ap (λ (t : Container). entries_text (entries_in name (written_table names t))) (sym (same_container kind xs ys p c.apart))
