-- Words speak of names that are there, and none is the end.
use Rattle.std.proofs.Common.{◌≡◌, ℕ, zero, suc, ◌+◌, ◌-◌, ◌≤◌, Bool, true, false, List, [], ◌∷◌, length, get_or, take, Option, Some, None, refl, sym, ap, ◌∙◌, arith, nat_lt, nat_eq, length-take, rules, ◌≢◌}
use Rattle.std.specs.Prelude.{◌&&◌, codes, is_some}
use Rattle.std.specs.Char.{is_ascii_digit, is_ascii_alphabetic}
use Rattle.std.specs.List.{prefix_len, AllByRecursion}
use Rattle.std.specs.Str.{bytes_eq}
use Rattle.std.proofs.lemmas.Bool.Decides.{nat_tests}
use Rattle.session_values.specs.Names.{Begins}
use Rattle.session_values.proofs.Named.{named_kept, named_with}
use Rattle.syntax_grammar.specs.declared.scan.Class.TheVariants as class
use Rattle.syntax_grammar.specs.declared.token_kind.TokenKind.{TokenKind}
use Rattle.syntax_grammar.specs.declared.token_kind.TokenKind.TheVariants as kind
use Rattle.syntax_grammar.specs.declared.word.Sort.{Sort}
use Rattle.syntax_grammar.specs.declared.word.Sort.TheVariants as sort
use Rattle.syntax_grammar.specs.declared.word.Word.{Word}
use Rattle.syntax_grammar.specs.Keyword.{sort_in, keyword_of, sign_of, operation_of, statement_word_of, operations, statement_words, signs, or_else}
use Rattle.syntax_grammar.specs.Scan.{Scanned, begins_two, is_single, is_in, gap, scan, scan_name, scan_bad, scan_symbol, scan_sign}
use Rattle.syntax_grammar.specs.Tokens.{Piece, with_reserved, behind_gap, pieces}
use Rattle.syntax_grammar.specs.Words.{unquoted, or_bad, names_by, sort_by, names_after, word_after, words, names_behind, words_of, names_of, IsNamedSort, IsNamedWord}
use Rattle.syntax_grammar.proofs.Cut.{pick}
use Rattle.syntax_grammar.proofs.NamesGrow.{begins_behind}

-- ---- the sorts of reserved words and signs

-- a sort that is neither a name, a symbol nor the end
abbrev pub is_plain : Sort → Bool
is_plain (sort.Name place) = false
is_plain (sort.Symbol place) = false
is_plain sort.End = false
is_plain s = true

abbrev AllPlain : List (List ℕ × Sort) → Type 0
AllPlain [] = Unit {0}
AllPlain (row ∷ rows) = (is_plain row.1 ≡ true) × AllPlain rows

abbrev pub IsPlain : Option Sort → Type 0
IsPlain o = is_plain (or_bad o) ≡ true

plain_in : (rows : List (List ℕ × Sort)) (text : List ℕ) → AllPlain rows → IsPlain (sort_in rows text)
plain_in [] text h = refl
plain_in (row ∷ rows) text h = pick IsPlain (bytes_eq text row.0) (Some row.1) (sort_in rows text) (λ _. h.0) (λ _. plain_in rows text h.1)

plain_else : (o other : Option Sort) → IsPlain o → IsPlain other → IsPlain (or_else o other)
plain_else None other h k = k
plain_else (Some s) other h k = h

pub plain_sign : (text : List ℕ) → IsPlain (sign_of text)
unfolding sign_of
plain_sign text = plain_in signs text (search rules)

pub plain_keyword : (text : List ℕ) → IsPlain (keyword_of text)
unfolding keyword_of statement_word_of operation_of
plain_keyword text = plain_else (sort_in statement_words text) (sort_in operations text) (plain_in statement_words text (search rules)) (plain_in operations text (search rules))

plain_named : (names : List (List ℕ)) (s : Sort) → is_plain s ≡ true → IsNamedSort names s
plain_named names (sort.Name place) h = absurd (let f : false ≡ true = h in cc)
plain_named names (sort.Symbol place) h = absurd (let f : false ≡ true = h in cc)
plain_named names s h = tt

plain_goes_on : (s : Sort) → is_plain s ≡ true → s ≡ sort.End → ⊥
plain_goes_on s h e = let f : false ≡ true = ap is_plain (sym e) ∙ h in absurd (cc)

-- ---- tokens of names and symbols are short

abbrev IsShort : TokenKind → List ℕ → Type 0
IsShort kind.Name text = length text ≤ 64
IsShort kind.Symbol text = length (unquoted text) ≤ 64
IsShort kind.End text = ⊥
IsShort k text = Unit {0}

-- of a text that is cut so, the token
abbrev CutsShort : List ℕ → Scanned → Type 0
CutsShort bs s = IsShort (with_reserved s.0 (take s.1 bs)) (take s.1 bs)

pub short_take : (n : ℕ) (bs : List ℕ) → n ≤ 64 → length (take n bs) ≤ 64
short_take n bs h = omega (arith, length-take n bs)

short_unquoted : (n b : ℕ) (r : List ℕ) → b ≡ 39 → n ≤ 64 → length (unquoted (take (n + 1) (b ∷ r))) ≤ 64
unfolding unquoted
short_unquoted n b r is h =
    let e : n + 1 ≡ suc n = omega arith in
    rw (e, is) (short_take n r h)

short_bad : (bs : List ℕ) → CutsShort bs (scan_bad bs)
unfolding scan_bad
short_bad bs = tt

short_name : (bs : List ℕ) → CutsShort bs (scan_name bs)
unfolding scan_name
short_name bs =
    let n = prefix_len (is_in class.Name) bs in
    pick (CutsShort bs) (nat_lt 64 n) _ _ (λ _. tt)
    (λ h. pick (λ k. IsShort k (take n bs)) (is_some (keyword_of (take n bs))) kind.Key kind.Name (λ _. tt) (λ _. short_take n bs (grind (arith, nat_tests))))

short_symbol : (b : ℕ) (r : List ℕ) → b ≡ 39 → CutsShort (b ∷ r) (scan_symbol (b ∷ r))
unfolding scan_symbol
short_symbol b r is =
    let n = prefix_len (is_in class.Symbol) r in
    pick (CutsShort (b ∷ r)) (is_ascii_alphabetic (get_or r 0 0)) _ _
    (λ _. pick (CutsShort (b ∷ r)) (nat_lt 64 n) _ _ (λ _. tt)
    (λ h. pick (CutsShort (b ∷ r)) (bytes_eq (take n r) (codes "nil")) _ _ (λ _. short_bad (b ∷ r)) (λ _. short_unquoted n b r is (grind (arith, nat_tests)))))
    (λ _. short_bad (b ∷ r))

short_sign : (bs : List ℕ) → CutsShort bs (scan_sign bs)
unfolding scan_sign
short_sign bs =
    pick (CutsShort bs) (begins_two (get_or bs 0 0) && nat_eq (get_or bs 1 0) 61) _ _ (λ _. tt)
    (λ _. pick (CutsShort bs) (is_single (get_or bs 0 0)) _ _ (λ _. tt) (λ _. short_bad bs))

short_scan : (b : ℕ) (r : List ℕ) → CutsShort (b ∷ r) (scan (b ∷ r))
unfolding scan
short_scan b r =
    let C : Scanned → Type 0 = CutsShort (b ∷ r) in
    pick C (is_ascii_alphabetic b) _ _ (λ _. short_name (b ∷ r))
    (λ _. pick C (is_ascii_digit b) _ _ (λ _. tt)
    (λ _. pick C (nat_eq b 39) _ _ (λ h. short_symbol b r (grind (arith, nat_tests))) (λ _. short_sign (b ∷ r))))

abbrev AllShort : List Piece → Type 0
AllShort = AllByRecursion (λ piece. IsShort piece.kind piece.text)

all_short : (skipped at : ℕ) (bs : List ℕ) → AllShort (pieces skipped at bs)
all_short skipped at [] = tt
all_short zero at (b ∷ bs) = by (gap false (b ∷ bs)) (λ n. all_short n (at + 1) bs)
  where
    by : (g : ℕ) → ((n : ℕ) → AllShort (pieces n (at + 1) bs)) → AllShort (behind_gap g at (b ∷ bs) (λ n. pieces n (at + 1) bs))
    by zero h = (short_scan b bs, h ((scan (b ∷ bs)).1 - 1))
    by (suc g) h = h g
all_short (suc n) at (b ∷ bs) = all_short n (at + 1) bs

-- ---- words

named_by : (k : TokenKind) (text : List ℕ) (names : List (List ℕ)) → IsShort k text → IsNamedSort (names_by k text names) (sort_by k text (names_by k text names))
named_by kind.Name text names h = named_with names text h
named_by kind.Symbol text names h = named_with names (unquoted text) h
named_by kind.Key text names h = plain_named names _ (plain_keyword text)
named_by kind.Sign text names h = plain_named names _ (plain_sign text)
named_by kind.Number text names h = tt
named_by kind.Long text names h = tt
named_by kind.Bad text names h = tt
named_by kind.End text names h = tt

named_after : (names : List (List ℕ)) (piece : Piece) → IsShort piece.kind piece.text → IsNamedWord (names_after names piece) (word_after names piece)
unfolding names_after word_after
named_after names piece h = named_by piece.kind piece.text names h

named_sort_kept : (old new : List (List ℕ)) (s : Sort) → Begins old new → IsNamedSort old s → IsNamedSort new s
named_sort_kept old new (sort.Name place) b h = named_kept old new place b h
named_sort_kept old new (sort.Symbol place) b h = named_kept old new place b h
named_sort_kept old new s b h = tt

-- each word of a list that names have is one of a longer one
pub named_word_kept : (old new : List (List ℕ)) (w : Word) → Begins old new → IsNamedWord old w → IsNamedWord new w
named_word_kept old new w b h = named_sort_kept old new w.sort b h

all_named : (names : List (List ℕ)) (ps : List Piece) → AllShort ps → AllByRecursion (IsNamedWord (names_behind names ps)) (words names ps)
all_named names [] h = tt
all_named names (p ∷ ps) h =
    let next = names_after names p in
    (named_word_kept next (names_behind next ps) (word_after names p) (begins_behind next ps) (named_after names p h.0), all_named next ps h.1)

pub text_named : (names : List (List ℕ)) (at : ℕ) (bs : List ℕ) → AllByRecursion (IsNamedWord (names_behind names (pieces 0 at bs))) (words names (pieces 0 at bs))
text_named names at bs = all_named names (pieces 0 at bs) (all_short 0 at bs)

-- each name and each symbol of a source is a name behind it
pub words_named : (names : List (List ℕ)) (source : List ℕ) → AllByRecursion (IsNamedWord (names_of names source)) (words_of names source)
unfolding words_of names_of
words_named names source = text_named names 0 source

abbrev GoesOn : Word → Type 0
GoesOn w = w.sort ≡ sort.End → ⊥

goes_on_by : (k : TokenKind) (text : List ℕ) (names : List (List ℕ)) → IsShort k text → sort_by k text names ≡ sort.End → ⊥
goes_on_by kind.Name text names h e = absurd (cc)
goes_on_by kind.Symbol text names h e = absurd (cc)
goes_on_by kind.Key text names h e = plain_goes_on _ (plain_keyword text) e
goes_on_by kind.Sign text names h e = plain_goes_on _ (plain_sign text) e
goes_on_by kind.Number text names h e = absurd (cc)
goes_on_by kind.Long text names h e = absurd (cc)
goes_on_by kind.Bad text names h e = absurd (cc)
goes_on_by kind.End text names h e = h

goes_on_after : (names : List (List ℕ)) (piece : Piece) → IsShort piece.kind piece.text → GoesOn (word_after names piece)
unfolding word_after
goes_on_after names piece h = goes_on_by piece.kind piece.text (names_by piece.kind piece.text names) h

all_go_on : (names : List (List ℕ)) (ps : List Piece) → AllShort ps → AllByRecursion GoesOn (words names ps)
all_go_on names [] h = tt
all_go_on names (p ∷ ps) h = (goes_on_after names p h.0, all_go_on (names_after names p) ps h.1)

pub text_goes_on : (names : List (List ℕ)) (at : ℕ) (bs : List ℕ) → AllByRecursion (λ w. w.sort ≢ sort.End) (words names (pieces 0 at bs))
text_goes_on names at bs = all_go_on names (pieces 0 at bs) (all_short 0 at bs)

-- the end is no word of a source
pub words_go_on : (names : List (List ℕ)) (source : List ℕ) → AllByRecursion (λ w. w.sort ≢ sort.End) (words_of names source)
unfolding words_of
words_go_on names source = text_goes_on names 0 source
