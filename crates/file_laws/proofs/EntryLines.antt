-- The lines of entries: they are lines of ASCII, and no marks.
use Rattle.std.proofs.Common.{◌≡◌, ℕ, suc, ◌<◌, ◌^◌, Bool, true, false, ◌&&◌, List, [], ◌∷◌, ◌++◌, length, take, drop, map, Option, Some, None, ℤ, pos, negsuc, codes, refl, sym, ap, ◌∙◌, subst, arith, append_assoc, append-nil}
use Rattle.std.specs.Prelude.{slice_index}
use Rattle.std.specs.Char.{is_ascii_alphabetic}
use Rattle.std.specs.Fmt.{decimal, signed_decimal}
use Rattle.std.specs.List.{list_all, list_any, AllByRecursion}
use Rattle.std.specs.Str.{all_ascii_digits, bytes_eq}
use Rattle.std.proofs.lemmas.Bool.Decides.{nat_tests}
use Rattle.std.proofs.lemmas.Fmt.{digits_decimal}
use Rattle.std.proofs.lemmas.Slice.Eq.{bytes_eq-Decides}
use Rattle.std.proofs.lemmas.Bool.{and_from, or_from, and_parts}
use Rattle.session_values.proofs.Lists.{all_join}
use Rattle.session_values.specs.Values.{IsValue}
use Rattle.session_values.specs.declared.value.Value.TheVariants.{Num}
use Rattle.text_lines.specs.Bytes.{is_blank}
use Rattle.text_lines.specs.Laws.{with_feeds}
use Rattle.text_lines.specs.Text.{Text, is_line_byte, lines}
use Rattle.text_lines.specs.Values.{is_symbol}
use Rattle.text_lines.proofs.NumberLemmas.{numerals}
use Rattle.text_lines.proofs.TextLemmas.{lines_nil}
use Rattle.text_lines.proofs.WordsBack.{symbol_word}
use Rattle.request_files.specs.Divide.{is_dividing}
use Rattle.table_lines.specs.Reading.{AreReadable, IsReadable}
use Rattle.table_lines.specs.TableText.{Entry, entries_text, entry_values, told_text}
use Rattle.table_lines.specs.Written.{Written, NilWord, NumberWord, SymbolWord, word}
use Rattle.table_lines.proofs.WordsBack.{readable_word}
use Rattle.file_laws.proofs.Dividing.{IsWhole, is_line, lines_behind}
use Rattle.serve_faults.proofs.SymbolTexts.{symbol_bytes, symbol_letter}

-- an entry of a table whose name is a symbol's text, with values that a word says
pub record IsSayable (e : Entry) : Type 0 where
  pub name : is_symbol e.name ≡ true
  pub values : AllByRecursion IsReadable (entry_values e)

pub readable : (es : List Entry) → AllByRecursion IsSayable es → AreReadable es
readable [] h = tt
readable (e ∷ es) h = (record { name = symbol_word e.name h.0.name; values = h.0.values }, readable es h.1)

-- ---- words

digit_ascii : (bs : Text) → all_ascii_digits bs ≡ true → AllByRecursion (λ b. b < 128) bs
digit_ascii [] e = tt
digit_ascii (b ∷ bs) e = (grind (arith, nat_tests, e), digit_ascii bs (grind (arith, nat_tests, e)))

pub decimal_ascii : (n : ℕ) → n < 2 ^ 64 → AllByRecursion (λ b. b < 128) (decimal n)
decimal_ascii n h = digit_ascii (decimal n) (digits_decimal numerals n h)

pub number_ascii : (z : ℤ) → IsValue (Num z) → AllByRecursion (λ b. b < 128) (signed_decimal z)
number_ascii (pos n) h = decimal_ascii n (omega (arith, h))
number_ascii (negsuc n) h = (omega arith, decimal_ascii (suc n) (omega (arith, h)))

word_ascii : (w : Written) → IsReadable w → AllByRecursion (λ b. b < 128) (word w)
word_ascii NilWord h = (omega arith, (omega arith, (omega arith, tt)))
word_ascii (NumberWord z) h = number_ascii z h
word_ascii (SymbolWord t) h = symbol_bytes t h

-- ---- one line

-- without its line feed
abbrev pub line_of : Entry → Text
line_of e = e.name ++ 32 ∷ word e.key ++ told_text e.value

split : (e : Entry) → line_of e ≡ e.name ++ (32 ∷ word e.key ++ told_text e.value)
split e = append_assoc e.name (32 ∷ word e.key) (told_text e.value)

all_joined : (xs ys : Text) → is_line xs ≡ true → is_line ys ≡ true → is_line (xs ++ ys) ≡ true
all_joined [] ys h k = k
all_joined (x ∷ xs) ys h k = and_from (is_line_byte x) (is_line (xs ++ ys)) (and_parts (is_line_byte x) (is_line xs) h).0 (all_joined xs ys (and_parts (is_line_byte x) (is_line xs) h).1 k)

ascii_joined : (xs ys : Text) → AllByRecursion (λ b. b < 128) xs → AllByRecursion (λ b. b < 128) ys → AllByRecursion (λ b. b < 128) (xs ++ ys)
ascii_joined xs ys h k = all_join (λ b. b < 128) xs ys h k

told_line : (key : Written) (v : Option Written) → AllByRecursion IsReadable (entry_values (record { name = []; key = key; value = v })) → is_line (32 ∷ word key ++ told_text v) ≡ true
told_line key None h = all_joined (32 ∷ word key) [] (readable_word key h.0).line refl
told_line key (Some w) h = all_joined (32 ∷ word key) (32 ∷ word w) (readable_word key h.0).line (readable_word w h.1.0).line

told_ascii : (key : Written) (v : Option Written) → AllByRecursion IsReadable (entry_values (record { name = []; key = key; value = v })) → AllByRecursion (λ b. b < 128) (32 ∷ word key ++ told_text v)
told_ascii key None h = ascii_joined (32 ∷ word key) [] (omega arith, word_ascii key h.0) tt
told_ascii key (Some w) h = ascii_joined (32 ∷ word key) (32 ∷ word w) (omega arith, word_ascii key h.0) (omega arith, word_ascii w h.1.0)

line_is : (e : Entry) → IsSayable e → is_line (line_of e) ≡ true
line_is e h = ap is_line (split e) ∙ all_joined e.name (32 ∷ word e.key ++ told_text e.value) (symbol_word e.name h.name).line (told_line e.key e.value h.values)

line_ascii : (e : Entry) → IsSayable e → AllByRecursion (λ b. b < 128) (line_of e)
line_ascii e h = subst (AllByRecursion (λ b. b < 128)) (sym (split e)) (ascii_joined e.name (32 ∷ word e.key ++ told_text e.value) (symbol_bytes e.name h.name) (told_ascii e.key e.value h.values))

-- a line that begins with a letter doesn't divide
no_mark : (name rest : Text) → is_ascii_alphabetic (slice_index name 0) ≡ true → 0 < length name → is_dividing (name ++ rest) ≡ false
unfolding is_dividing
no_mark [] rest a l = absurd (omega (arith, l))
no_mark (b ∷ bs) rest a l = go (bytes_eq (take 2 (b ∷ bs ++ rest)) (codes "%%")) refl
  where
    first : (x : ℕ) (xs : Text) → x ∷ xs ≡ 37 ∷ 37 ∷ [] → x ≡ 37
    first x xs e = cc

    no_letter : is_ascii_alphabetic 37 ≡ true → ⊥
    no_letter e = cc

    go : (t : Bool) → bytes_eq (take 2 (b ∷ bs ++ rest)) (codes "%%") ≡ t → (bytes_eq (take 2 (b ∷ bs ++ rest)) (codes "%%") && list_all is_blank (drop 2 (b ∷ bs ++ rest))) ≡ false
    go true e = absurd (no_letter (subst (λ x. is_ascii_alphabetic x ≡ true) (first b (take 1 (bs ++ rest)) ((bytes_eq-Decides (take 2 (b ∷ bs ++ rest)) (codes "%%")).0 e)) a))
    go false e = ap (λ x. x && list_all is_blank (drop 2 (b ∷ bs ++ rest))) e

line_no_mark : (e : Entry) → IsSayable e → is_dividing (line_of e) ≡ false
line_no_mark e h = ap is_dividing (split e) ∙ no_mark e.name (32 ∷ word e.key ++ told_text e.value) (symbol_letter e.name h.name) (symbol_word e.name h.name).some

-- ---- all lines

pub text_is : (es : List Entry) → entries_text es ≡ with_feeds (map line_of es)
text_is [] = refl
text_is (e ∷ es) = append_assoc (line_of e) (10 ∷ []) (entries_text es) ∙ ap (λ (t : Text). line_of e ++ 10 ∷ t) (text_is es)

lines_all : (es : List Entry) → AllByRecursion IsSayable es → list_all is_line (map line_of es) ≡ true
lines_all [] h = refl
lines_all (e ∷ es) h = and_from (is_line (line_of e)) (list_all is_line (map line_of es)) (line_is e h.0) (lines_all es h.1)

none_divides : (es : List Entry) → AllByRecursion IsSayable es → list_any is_dividing (map line_of es) ≡ false
none_divides [] h = refl
none_divides (e ∷ es) h = or_from (is_dividing (line_of e)) (list_any is_dividing (map line_of es)) (line_no_mark e h.0) (none_divides es h.1)

pub lines_own : (ls : List Text) → list_all is_line ls ≡ true → lines (with_feeds ls) ≡ ls
lines_own ls h = ap lines (sym (append-nil (with_feeds ls))) ∙ lines_behind ls [] h ∙ ap (λ (t : List Text). ls ++ t) lines_nil ∙ append-nil ls

pub entries_lines : (es : List Entry) → AllByRecursion IsSayable es → lines (entries_text es) ≡ map line_of es
entries_lines es h = ap lines (text_is es) ∙ lines_own (map line_of es) (lines_all es h)

pub entries_whole : (es : List Entry) → AllByRecursion IsSayable es → IsWhole (entries_text es)
entries_whole es h = ap with_feeds (entries_lines es h) ∙ sym (text_is es)

pub entries_undivided : (es : List Entry) → AllByRecursion IsSayable es → list_any is_dividing (lines (entries_text es)) ≡ false
entries_undivided es h = ap (list_any is_dividing) (entries_lines es h) ∙ none_divides es h

pub entries_ascii : (es : List Entry) → AllByRecursion IsSayable es → AllByRecursion (λ b. b < 128) (entries_text es)
entries_ascii [] h = tt
entries_ascii (e ∷ es) h = ascii_joined (line_of e ++ 10 ∷ []) (entries_text es) (ascii_joined (line_of e) (10 ∷ []) (line_ascii e h.0) (omega arith, tt)) (entries_ascii es h.1)
