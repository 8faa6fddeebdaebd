-- A word has the kind of its token.
use Rattle.std.proofs.Common.{◌≡◌, ℕ, zero, suc, ◌+◌, ◌-◌, Bool, true, false, List, [], ◌∷◌, map, get_or, take, drop, Option, Some, None, refl, ap, ◌∙◌, subst, arith, nat_lt, nat_eq, rules}
use Rattle.std.specs.Prelude.{◌||◌, ◌&&◌, codes, is_some}
use Rattle.std.specs.Char.{is_ascii_digit, is_ascii_alphabetic}
use Rattle.std.specs.List.{prefix_len, AllByRecursion}
use Rattle.std.specs.Str.{bytes_eq}
use Rattle.std.proofs.lemmas.Bool.Decides.{nat_tests}
use Rattle.std.proofs.lemmas.Bool.{and_parts}
use Rattle.syntax_grammar.specs.declared.scan.Class.TheVariants as class
use Rattle.syntax_grammar.specs.declared.token_kind.TokenKind.{TokenKind}
use Rattle.syntax_grammar.specs.declared.token_kind.TokenKind.TheVariants as kind
use Rattle.syntax_grammar.specs.declared.word.Sort.{Sort}
use Rattle.syntax_grammar.specs.declared.word.Word.{Word}
use Rattle.syntax_grammar.specs.Keyword.{sort_in, keyword_of, sign_of, operation_of, statement_word_of, operations, statement_words, signs, or_else}
use Rattle.syntax_grammar.specs.Scan.{Scanned, begins_two, is_single, is_in, gap, scan, scan_name, scan_bad, scan_symbol, scan_sign}
use Rattle.syntax_grammar.specs.Tokens.{Piece, with_reserved, behind_gap, pieces}
use Rattle.syntax_grammar.specs.Words.{or_bad, sort_by, names_by, names_after, word_after, words, words_of, kind_of}
use Rattle.syntax_grammar.proofs.Cut.{pick}

-- ---- the kinds of reserved words and signs

abbrev AllKind : TokenKind → List (List ℕ × Sort) → Type 0
AllKind k [] = Unit {0}
AllKind k (row ∷ rows) = (kind_of row.1 ≡ k) × AllKind k rows

abbrev HasKind : TokenKind → Option Sort → Type 0
HasKind k o = is_some o ≡ true → kind_of (or_bad o) ≡ k

kind_in : (k : TokenKind) (rows : List (List ℕ × Sort)) (text : List ℕ) → AllKind k rows → HasKind k (sort_in rows text)
kind_in k [] text h = λ e. absurd (let f : false ≡ true = e in cc)
kind_in k (row ∷ rows) text h = pick (HasKind k) (bytes_eq text row.0) (Some row.1) (sort_in rows text) (λ _ _. h.0) (λ _. kind_in k rows text h.1)

kind_else : (k : TokenKind) (o other : Option Sort) → HasKind k o → HasKind k other → HasKind k (or_else o other)
kind_else k None other h g = g
kind_else k (Some s) other h g = h

sign_kind : (text : List ℕ) → HasKind kind.Sign (sign_of text)
unfolding sign_of
sign_kind text = kind_in kind.Sign signs text (search rules)

key_kind : (text : List ℕ) → HasKind kind.Key (keyword_of text)
unfolding keyword_of statement_word_of operation_of
key_kind text = kind_else kind.Key (sort_in statement_words text) (sort_in operations text) (kind_in kind.Key statement_words text (search rules)) (kind_in kind.Key operations text (search rules))

-- ---- each sign is in the table

either : (x y : Bool) (P : Type 0) → (x || y) ≡ true → (x ≡ true → P) → (y ≡ true → P) → P
either true y P h f g = f refl
either false y P h f g = g h

at : (P : ℕ → Type 0) (n b : ℕ) → P n → nat_eq b n ≡ true → P b
at P n b p h = let e : n ≡ b = grind (arith, nat_tests) in subst P e p

abbrev IsSignText : List ℕ → Type 0
IsSignText text = is_some (sign_of text) ≡ true

pub two_sign : (b : ℕ) → begins_two b ≡ true → IsSignText (b ∷ 61 ∷ [])
unfolding sign_of
two_sign b h =
    let P : ℕ → Type 0 = λ n. IsSignText (n ∷ 61 ∷ []) in
    either (nat_eq b 61) (nat_eq b 60 || nat_eq b 33) (P b) h (at P 61 b refl) (λ h. either (nat_eq b 60) (nat_eq b 33) (P b) h (at P 60 b refl) (at P 33 b refl))

pub one_sign : (b : ℕ) → is_single b ≡ true → IsSignText (b ∷ [])
unfolding sign_of
one_sign b h =
    let P : ℕ → Type 0 = λ n. IsSignText (n ∷ []) in
    either (nat_eq b 40) _ (P b) h (at P 40 b refl)
    (λ h. either (nat_eq b 41) _ (P b) h (at P 41 b refl)
    (λ h. either (nat_eq b 123) _ (P b) h (at P 123 b refl)
    (λ h. either (nat_eq b 125) _ (P b) h (at P 125 b refl)
    (λ h. either (nat_eq b 44) _ (P b) h (at P 44 b refl)
    (λ h. either (nat_eq b 59) _ (P b) h (at P 59 b refl)
    (λ h. either (nat_eq b 61) _ (P b) h (at P 61 b refl)
    (λ h. either (nat_eq b 60) _ (P b) h (at P 60 b refl)
    (λ h. either (nat_eq b 43) _ (P b) h (at P 43 b refl)
    (λ h. either (nat_eq b 45) (nat_eq b 42) (P b) h (at P 45 b refl) (at P 42 b refl))))))))))

-- ---- what is cut has its kind

-- a token of this kind is in the table, where there is one
abbrev IsTold : TokenKind → List ℕ → Type 0
IsTold kind.Key text = is_some (keyword_of text) ≡ true
IsTold kind.Sign text = IsSignText text
IsTold k text = Unit {0}

abbrev CutsTold : List ℕ → Scanned → Type 0
CutsTold bs s = IsTold (with_reserved s.0 (take s.1 bs)) (take s.1 bs)

told_bad : (bs : List ℕ) → CutsTold bs (scan_bad bs)
unfolding scan_bad
told_bad bs = tt

told_name : (bs : List ℕ) → CutsTold bs (scan_name bs)
unfolding scan_name
told_name bs =
    let n = prefix_len (is_in class.Name) bs in
    pick (CutsTold bs) (nat_lt 64 n) _ _ (λ _. tt) (λ _. pick (λ k. IsTold k (take n bs)) (is_some (keyword_of (take n bs))) kind.Key kind.Name (λ h. h) (λ _. tt))

told_symbol : (bs : List ℕ) → CutsTold bs (scan_symbol bs)
unfolding scan_symbol
told_symbol bs =
    let n = prefix_len (is_in class.Symbol) (drop 1 bs) in
    pick (CutsTold bs) (is_ascii_alphabetic (get_or bs 1 0)) _ _
    (λ _. pick (CutsTold bs) (nat_lt 64 n) _ _ (λ _. tt) (λ _. pick (CutsTold bs) (bytes_eq (take n (drop 1 bs)) (codes "nil")) _ _ (λ _. told_bad bs) (λ _. tt)))
    (λ _. told_bad bs)

pub told_two : (b : ℕ) (r : List ℕ) → begins_two b ≡ true → nat_eq (get_or r 0 0) 61 ≡ true → IsSignText (take 2 (b ∷ r))
told_two b [] h k = absurd (let f : false ≡ true = k in cc)
told_two b (x ∷ r) h k = let e : 61 ≡ x = grind (arith, nat_tests) in subst (λ y. IsSignText (b ∷ y ∷ [])) e (two_sign b h)

told_sign : (b : ℕ) (r : List ℕ) → CutsTold (b ∷ r) (scan_sign (b ∷ r))
unfolding scan_sign
told_sign b r =
    pick (CutsTold (b ∷ r)) (begins_two b && nat_eq (get_or r 0 0) 61) _ _
    (λ h. told_two b r (and_parts (begins_two b) _ h).0 (and_parts (begins_two b) _ h).1)
    (λ _. pick (CutsTold (b ∷ r)) (is_single b) _ _ (λ h. one_sign b h) (λ _. told_bad (b ∷ r)))

told_scan : (b : ℕ) (r : List ℕ) → CutsTold (b ∷ r) (scan (b ∷ r))
unfolding scan
told_scan b r =
    let C : Scanned → Type 0 = CutsTold (b ∷ r) in
    pick C (is_ascii_alphabetic b) _ _ (λ _. told_name (b ∷ r))
    (λ _. pick C (is_ascii_digit b) _ _ (λ _. tt)
    (λ _. pick C (nat_eq b 39) _ _ (λ _. told_symbol (b ∷ r)) (λ _. told_sign b r)))

abbrev AllTold : List Piece → Type 0
AllTold = AllByRecursion (λ piece. IsTold piece.kind piece.text)

all_told : (skipped at : ℕ) (bs : List ℕ) → AllTold (pieces skipped at bs)
all_told skipped at [] = tt
all_told zero at (b ∷ bs) = by (gap false (b ∷ bs)) (λ n. all_told n (at + 1) bs)
  where
    by : (g : ℕ) → ((n : ℕ) → AllTold (pieces n (at + 1) bs)) → AllTold (behind_gap g at (b ∷ bs) (λ n. pieces n (at + 1) bs))
    by zero h = (told_scan b bs, h ((scan (b ∷ bs)).1 - 1))
    by (suc g) h = h g
all_told (suc n) at (b ∷ bs) = all_told n (at + 1) bs

-- ---- words

kind_by : (k : TokenKind) (text : List ℕ) (names : List (List ℕ)) → IsTold k text → kind_of (sort_by k text names) ≡ k
kind_by kind.Name text names h = refl
kind_by kind.Key text names h = key_kind text h
kind_by kind.Symbol text names h = refl
kind_by kind.Number text names h = refl
kind_by kind.Sign text names h = sign_kind text h
kind_by kind.Long text names h = refl
kind_by kind.Bad text names h = refl
kind_by kind.End text names h = refl

word_kind : (names : List (List ℕ)) (piece : Piece) → IsTold piece.kind piece.text → kind_of (word_after names piece).sort ≡ piece.kind
unfolding word_after
word_kind names piece h = kind_by piece.kind piece.text (names_by piece.kind piece.text names) h

words_kinds : (names : List (List ℕ)) (ps : List Piece) → AllTold ps → map (λ (w : Word). kind_of w.sort) (words names ps) ≡ map (λ (p : Piece). p.kind) ps
words_kinds names [] h = refl
words_kinds names (p ∷ ps) h =
    ap (λ k. k ∷ map (λ (w : Word). kind_of w.sort) (words (names_after names p) ps)) (word_kind names p h.0) ∙ ap (λ l. p.kind ∷ l) (words_kinds (names_after names p) ps h.1)

-- the words of a source have the kinds of its tokens
pub kinds_of_words : (names : List (List ℕ)) (source : List ℕ) → map (λ (w : Word). kind_of w.sort) (words_of names source) ≡ map (λ (p : Piece). p.kind) (pieces 0 0 source)
unfolding words_of
kinds_of_words names source = words_kinds names (pieces 0 0 source) (all_told 0 0 source)
