-- The lines of entries are read as rows of the words that were written.
use Rattle.std.proofs.Common.{◌≡◌, ℕ, ◌+◌, List, [], ◌∷◌, ◌++◌, Option, Some, None, sym, ap, ◌∙◌, map, append_assoc, append-nil}
use Rattle.std.specs.List.{AllByRecursion}
use Rattle.text_lines.specs.Rows.{Row, row_of, rows}
use Rattle.text_lines.specs.Text.{Text, lines}
use Rattle.text_lines.proofs.RowLemmas.{rows_more, rows_nil}
use Rattle.text_lines.proofs.TextLemmas.{lines_nil}
use Rattle.text_lines.specs.Words.{IsWord, spaced}
use Rattle.text_lines.proofs.WordsBack.{line_front, nil_word, number_word, symbol_word, words_back}
use Rattle.table_lines.specs.Reading.{AreReadable, IsReadable, IsReadableEntry, rows_from}
use Rattle.table_lines.specs.TableText.{Entry, entries_text, entry_line, entry_values, entry_words, told_text, values_told}
use Rattle.table_lines.specs.Written.{Written, NilWord, NumberWord, SymbolWord, word}

-- what is written is a word
pub readable_word : (w : Written) → IsReadable w → IsWord (word w)
readable_word NilWord h = nil_word
readable_word (NumberWord z) h = number_word z h
readable_word (SymbolWord t) h = symbol_word t h

are_words : (ws : List Written) → AllByRecursion IsReadable ws → AllByRecursion IsWord (map word ws)
are_words [] all = tt
are_words (w ∷ ws) all = (readable_word w all.0, are_words ws all.1)

-- an entry's line without its line feed
front_is : (name : Text) (key : Written) (value : Option Written) → (name ++ 32 ∷ word key ++ told_text value) ≡ spaced (name ∷ map word (values_told key value))
front_is name key None = append_assoc name (32 ∷ word key) []
front_is name key (Some v) = append_assoc name (32 ∷ word key) (32 ∷ word v) ∙ ap (λ (t : Text). name ++ (32 ∷ word key ++ t)) (sym (append-nil (32 ∷ word v)))

row_front : (n : ℕ) (e : Entry) (back : Text) → IsReadableEntry e → rows n (lines (entry_line e ++ back)) ≡ row_of n e.name (entry_words e) ∷ rows (n + 1) (lines back)
row_front n e back h =
    let ws : List Text = e.name ∷ entry_words e in
    let all : AllByRecursion IsWord ws = (h.name, are_words (entry_values e) h.values) in
    let split : entry_line e ++ back ≡ spaced ws ++ 10 ∷ back = append_assoc (e.name ++ 32 ∷ word e.key ++ told_text e.value) (10 ∷ []) back ∙ ap (λ (t : Text). t ++ 10 ∷ back) (front_is e.name e.key e.value) in
    ap (λ (t : Text). rows n (lines t)) split
    ∙ ap (rows n) (line_front ws back all)
    ∙ rows_more n (spaced ws) (lines back) e.name (entry_words e) (words_back ws all)

pub row_back : (n : ℕ) (e : Entry) → IsReadableEntry e → rows n (lines (entry_line e)) ≡ row_of n e.name (entry_words e) ∷ []
row_back n e h =
    ap (λ (t : Text). rows n (lines t)) (sym (append-nil (entry_line e)))
    ∙ row_front n e [] h
    ∙ ap (λ (rs : List Row). row_of n e.name (entry_words e) ∷ rs) (ap (rows (n + 1)) lines_nil ∙ rows_nil (n + 1))

pub rows_back : (n : ℕ) (es : List Entry) → AreReadable es → rows n (lines (entries_text es)) ≡ rows_from n es
rows_back n [] h = ap (rows n) lines_nil ∙ rows_nil n
rows_back n (e ∷ es) h = row_front n e (entries_text es) h.0 ∙ ap (λ (rs : List Row). row_of n e.name (entry_words e) ∷ rs) (rows_back (n + 1) es h.1)
