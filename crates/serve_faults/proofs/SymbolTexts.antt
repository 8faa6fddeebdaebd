-- Each text of a session's names is a symbol's, and none stands twice.
use Rattle.std.proofs.Common.{◌≡◌, ℕ, zero, suc, ◌<◌, ◌≤◌, Bool, true, false, not, ◌&&◌, nat_le, List, [], ◌∷◌, length, Some, None, slice_get, refl, sym, ap, ◌∙◌, subst, arith}
use Rattle.std.specs.Prelude.{codes, slice_index}
use Rattle.std.specs.Char.{is_ascii_alphabetic}
use Rattle.std.specs.List.{list_all, list_any, AllByRecursion}
use Rattle.std.specs.Str.{bytes_eq}
use Rattle.std.proofs.lemmas.Bool.Decides.{nat_tests}
use Rattle.std.proofs.lemmas.Slice.Eq.{bytes_eq-Decides}
use Rattle.session_values.specs.Names.{with_text, AreDistinct, IsNamed}
use Rattle.session_values.proofs.Lists.{all_join}
use Rattle.session_values.proofs.NamesLemmas.{AreDistinct-push, with_known, with_new}
use Rattle.request_files.specs.Bytes.{is_symbol_byte}
use Rattle.request_files.specs.Rows.{Row, names_behind}
use Rattle.request_files.specs.Text.{Text}
use Rattle.request_files.specs.Values.{is_nil, is_symbol, placed, placed_all}
use Rattle.request_files.proofs.TextRowLemmas.{behind_nil, behind_step}
use Rattle.request_files.proofs.ValueLemmas.{placed_all_nil, placed_all_step, placed_by}
use Rattle.syntax_grammar.specs.declared.scan.Class.TheVariants as class
use Rattle.syntax_grammar.specs.declared.token_kind.TokenKind.{TokenKind}
use Rattle.syntax_grammar.specs.declared.token_kind.TokenKind.TheVariants as kind
use Rattle.syntax_grammar.specs.Keyword.{keyword_of, statement_word_of, operation_of}
use Rattle.syntax_grammar.specs.Scan.{is_in}
use Rattle.syntax_grammar.specs.Texts.{IsNameText, IsSymbolText}
use Rattle.syntax_grammar.specs.Tokens.{Piece, pieces}
use Rattle.syntax_grammar.specs.Words.{unquoted, names_by, names_after, names_behind as behind_pieces, names_of}
use Rattle.syntax_grammar.proofs.TextTokens.{IsGood, AllGood, all_good}
use Rattle.table_lines.specs.Written.{text_at}

-- ---- texts of the language

symbol_by : (w : Text) → is_nil w ≡ false → is_ascii_alphabetic (slice_index w 0) ≡ true → nat_le (length w) 64 ≡ true → list_all is_symbol_byte w ≡ true → is_symbol w ≡ true
unfolding is_symbol
symbol_by w n a l s = λ i. not (n i) && a i && l i && s i

all_bytes : (p : ℕ → Bool) (bs : Text) → AllByRecursion (λ b. p b ≡ true) bs → list_all p bs ≡ true
all_bytes p [] h = refl
all_bytes p (b ∷ bs) h = ap (λ x. x && list_all p bs) h.0 ∙ all_bytes p bs h.1

short_is : (n : ℕ) → n ≤ 64 → nat_le n 64 ≡ true
short_is n h = grind (arith, nat_tests, h)

name_byte : (b : ℕ) → is_in class.Name b ≡ true → is_symbol_byte b ≡ true
name_byte b h = grind (arith, nat_tests, h)

name_bytes : (bs : Text) → AllByRecursion (λ b. is_in class.Name b ≡ true) bs → AllByRecursion (λ b. is_symbol_byte b ≡ true) bs
name_bytes [] h = tt
name_bytes (b ∷ bs) h = (name_byte b h.0, name_bytes bs h.1)

nil_reserved : keyword_of (codes "nil") ≡ None → ⊥
unfolding keyword_of statement_word_of operation_of
nil_reserved h = cc

not_nil : (w : Text) → keyword_of w ≡ None → (b : Bool) → bytes_eq w (codes "nil") ≡ b → bytes_eq w (codes "nil") ≡ false
not_nil w h true e = absurd (nil_reserved (subst (λ (t : Text). keyword_of t ≡ None) ((bytes_eq-Decides w (codes "nil")).0 e) h))
not_nil w h false e = e

name_symbol : (w : Text) → IsNameText w → is_symbol w ≡ true
name_symbol w h = symbol_by w (not_nil w h.free (bytes_eq w (codes "nil")) refl) h.run.letter (short_is (length w) h.run.short) (all_bytes is_symbol_byte w (name_bytes w h.run.run))

symbol_symbol : (w : Text) → IsSymbolText w → is_symbol w ≡ true
symbol_symbol w h = symbol_by w h.not_nil h.run.letter (short_is (length w) h.run.short) (all_bytes is_symbol_byte w h.run.run)

-- ---- lists of names

-- different texts, each a symbol's
pub record AreSymbols (names : List Text) : Type 0 where
  pub distinct : AreDistinct names
  pub each : AllByRecursion (λ t. is_symbol t ≡ true) names

symbols_with : (names : List Text) (t : Text) → is_symbol t ≡ true → AreSymbols names → AreSymbols (with_text names t)
symbols_with names t s a = go (list_any (bytes_eq t) names) refl
  where
    go : (b : Bool) → list_any (bytes_eq t) names ≡ b → AreSymbols (with_text names t)
    go true e = subst AreSymbols (sym (with_known names t e)) a
    go false e = subst AreSymbols (sym (with_new names t e)) (record { distinct = AreDistinct-push names t a.distinct e; each = all_join (λ x. is_symbol x ≡ true) names (t ∷ []) a.each (s, tt) })

symbols_by : (k : TokenKind) (text : Text) (names : List Text) → IsGood k text → AreSymbols names → AreSymbols (names_by k text names)
symbols_by kind.Name text names h a = symbols_with names text (name_symbol text h) a
symbols_by kind.Symbol text names h a = symbols_with names (unquoted text) (symbol_symbol (unquoted text) h) a
symbols_by kind.Key text names h a = a
symbols_by kind.Number text names h a = a
symbols_by kind.Sign text names h a = a
symbols_by kind.Long text names h a = a
symbols_by kind.Bad text names h a = a
symbols_by kind.End text names h a = a

symbols_after : (names : List Text) (piece : Piece) → IsGood piece.kind piece.text → AreSymbols names → AreSymbols (names_after names piece)
unfolding names_after
symbols_after names piece h a = symbols_by piece.kind piece.text names h a

symbols_pieces : (names : List Text) (ps : List Piece) → AllGood ps → AreSymbols names → AreSymbols (behind_pieces names ps)
symbols_pieces names [] h a = a
symbols_pieces names (p ∷ ps) h a = symbols_pieces (names_after names p) ps h.1 (symbols_after names p h.0 a)

no_names : AreSymbols []
no_names = record { distinct = λ i j text e f. absurd (cc); each = tt }

-- the names behind a text of handlers
pub handler_symbols : (source : Text) → AreSymbols (names_of [] source)
unfolding names_of
handler_symbols source = symbols_pieces [] (pieces 0 0 source) (all_good 0 0 source) no_names

symbols_placed : (names : List Text) (w : Text) → AreSymbols names → AreSymbols (placed names w)
symbols_placed names w a = go (is_symbol w) refl
  where
    go : (b : Bool) → is_symbol w ≡ b → AreSymbols (placed names w)
    go true e = subst AreSymbols (sym (placed_by names w true e)) (symbols_with names w e a)
    go false e = subst AreSymbols (sym (placed_by names w false e)) a

symbols_all : (names ws : List Text) → AreSymbols names → AreSymbols (placed_all names ws)
symbols_all names [] a = subst AreSymbols (sym (placed_all_nil names)) a
symbols_all names (w ∷ ws) a = subst AreSymbols (sym (placed_all_step names w ws)) (symbols_all (placed names w) ws (symbols_placed names w a))

-- the names behind rows
pub row_symbols : (names : List Text) (rs : List Row) → AreSymbols names → AreSymbols (names_behind names rs)
row_symbols names [] a = subst AreSymbols (sym (behind_nil names)) a
row_symbols names (r ∷ rs) a = subst AreSymbols (sym (behind_step names r rs)) (row_symbols (placed_all names r.args) rs (symbols_all names r.args a))

-- ---- the text at a place

pub symbol_within : (names : List Text) (i : ℕ) → AllByRecursion (λ t. is_symbol t ≡ true) names → i < length names → is_symbol (text_at names i) ≡ true
symbol_within [] i a h = absurd (omega (arith, h))
symbol_within (t ∷ ts) zero a h = a.0
symbol_within (t ∷ ts) (suc i) a h = symbol_within ts i a.1 (omega (arith, h))

pub symbol_named : (names : List Text) (i : ℕ) → AllByRecursion (λ t. is_symbol t ≡ true) names → IsNamed names i → is_symbol (text_at names i) ≡ true
symbol_named names i a n = go names i a n.text n.at
  where
    go : (names : List Text) (i : ℕ) → AllByRecursion (λ t. is_symbol t ≡ true) names → (t : Text) → slice_get names i ≡ Some t → is_symbol (text_at names i) ≡ true
    go [] i a t e = absurd (cc)
    go (x ∷ xs) zero a t e = a.0
    go (x ∷ xs) (suc i) a t e = go xs i a.1 t e

-- ---- the bytes of a symbol

symbol_all : (w : Text) → is_symbol w ≡ true → list_all is_symbol_byte w ≡ true
unfolding is_symbol
symbol_all w e = grind (arith, nat_tests, e)

pub symbol_letter : (w : Text) → is_symbol w ≡ true → is_ascii_alphabetic (slice_index w 0) ≡ true
unfolding is_symbol
symbol_letter w e = grind (arith, nat_tests, e)

symbol_ascii : (b : ℕ) → is_symbol_byte b ≡ true → b < 128
symbol_ascii b e = grind (arith, nat_tests, e)

first_of : (p : ℕ → Bool) (b : ℕ) (bs : Text) → list_all p (b ∷ bs) ≡ true → (p b ≡ true) × (list_all p bs ≡ true)
first_of p b bs e = go (p b) refl e
  where
    go : (x : Bool) → p b ≡ x → (x && list_all p bs) ≡ true → (p b ≡ true) × (list_all p bs ≡ true)
    go true e f = (e, f)
    go false e f = absurd (cc)

ascii_all : (bs : Text) → list_all is_symbol_byte bs ≡ true → AllByRecursion (λ b. b < 128) bs
ascii_all [] e = tt
ascii_all (b ∷ bs) e = let h = first_of is_symbol_byte b bs e in (symbol_ascii b h.0, ascii_all bs h.1)

-- they are ASCII
pub symbol_bytes : (w : Text) → is_symbol w ≡ true → AllByRecursion (λ b. b < 128) w
symbol_bytes w e = ascii_all w (symbol_all w e)
