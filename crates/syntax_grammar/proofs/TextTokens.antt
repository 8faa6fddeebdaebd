-- The token of a name or a symbol has a text that is read so.
use Rattle.std.proofs.Common.{◌≡◌, ℕ, zero, suc, ◌+◌, ◌-◌, ◌≤◌, Bool, true, false, cond, List, [], ◌∷◌, get_or, take, Option, Some, None, refl, ap, ◌∙◌, arith, nat_lt, nat_eq}
use Rattle.std.specs.Prelude.{◌||◌, ◌&&◌, codes, is_some}
use Rattle.std.specs.Char.{is_ascii_digit, is_ascii_alphabetic, is_ascii_alphanumeric}
use Rattle.std.specs.Int.{is_in_range}
use Rattle.std.specs.List.{prefix_len, AllByRecursion}
use Rattle.std.specs.Str.{bytes_eq}
use Rattle.std.proofs.lemmas.Bool.{or_left}
use Rattle.std.proofs.lemmas.Bool.Decides.{nat_tests}
use Rattle.syntax_grammar.specs.declared.scan.Class.{Class}
use Rattle.syntax_grammar.specs.declared.scan.Class.TheVariants as class
use Rattle.syntax_grammar.specs.declared.token_kind.TokenKind.{TokenKind}
use Rattle.syntax_grammar.specs.declared.token_kind.TokenKind.TheVariants as kind
use Rattle.syntax_grammar.specs.declared.word.Sort.{Sort}
use Rattle.syntax_grammar.specs.Keyword.{keyword_of}
use Rattle.syntax_grammar.specs.Scan.{Scanned, begins_two, is_single, is_in, gap, scan, scan_name, scan_bad, scan_symbol, scan_sign}
use Rattle.syntax_grammar.specs.Tokens.{Piece, with_reserved, behind_gap, pieces}
use Rattle.syntax_grammar.specs.Words.{unquoted}
use Rattle.syntax_grammar.proofs.Cut.{pick}
use Rattle.syntax_grammar.proofs.WordsNamed.{short_take}
use Rattle.syntax_grammar.specs.Texts.{IsRun, IsNameText, IsSymbolText}

-- ---- runs

letter_or_digit : (a b d : Bool) → (a || b) ≡ true → ((d || a) || b) ≡ true
letter_or_digit true b true h = refl
letter_or_digit true b false h = refl
letter_or_digit false true true h = refl
letter_or_digit false true false h = refl
letter_or_digit false false d h = absurd (cc)

-- a letter is in each class of names and symbols
alphanumeric : (b : ℕ) → is_ascii_alphabetic b ≡ true → is_ascii_alphanumeric b ≡ true
alphanumeric b h = letter_or_digit (is_in_range 65 90 b) (is_in_range 97 122 b) (is_in_range 48 57 b) h

pub name_letter : (b : ℕ) → is_ascii_alphabetic b ≡ true → is_in class.Name b ≡ true
name_letter b h = or_left (is_ascii_alphanumeric b) (nat_eq b 95) (alphanumeric b h)

pub symbol_letter : (b : ℕ) → is_ascii_alphabetic b ≡ true → is_in class.Symbol b ≡ true
symbol_letter b h = or_left (is_ascii_alphanumeric b) (nat_eq b 95 || (nat_eq b 46 || (nat_eq b 45 || (nat_eq b 64 || nat_eq b 58)))) (alphanumeric b h)

pub run_taken : (p : ℕ → Bool) (xs : List ℕ) → AllByRecursion (λ b. p b ≡ true) (take (prefix_len p xs) xs)
run_taken p [] = tt
run_taken p (x ∷ xs) = by (p x) refl (run_taken p xs)
  where
    by : (t : Bool) → p x ≡ t → AllByRecursion (λ b. p b ≡ true) (take (prefix_len p xs) xs) → AllByRecursion (λ b. p b ≡ true) (take (cond t (1 + prefix_len p xs) 0) (x ∷ xs))
    by true e more = let on : 1 + prefix_len p xs ≡ suc (prefix_len p xs) = omega arith in rw on (e, more)
    by false e more = tt

pub run_begins : (p : ℕ → Bool) (x : ℕ) (xs : List ℕ) → p x ≡ true → get_or (take (prefix_len p (x ∷ xs)) (x ∷ xs)) 0 0 ≡ x
run_begins p x xs h =
    let on : 1 + prefix_len p xs ≡ suc (prefix_len p xs) = omega arith in
    ap (λ t. get_or (take (cond t (1 + prefix_len p xs) 0) (x ∷ xs)) 0 0) h ∙ rw on refl

pub run_of : (c : Class) → ((b : ℕ) → is_ascii_alphabetic b ≡ true → is_in c b ≡ true) → (bs : List ℕ) → is_ascii_alphabetic (get_or bs 0 0) ≡ true → prefix_len (is_in c) bs ≤ 64 → IsRun c (take (prefix_len (is_in c) bs) bs)
run_of c letters [] letter short = absurd (let e : false ≡ true = letter in cc)
run_of c letters (b ∷ bs) letter short =
    record { letter = ap is_ascii_alphabetic (run_begins (is_in c) b bs (letters b letter)) ∙ letter; run = run_taken (is_in c) (b ∷ bs); short = short_take (prefix_len (is_in c) (b ∷ bs)) (b ∷ bs) short }

-- ---- what is cut is good

-- the text of a token of this kind
abbrev pub IsGood : TokenKind → List ℕ → Type 0
IsGood kind.Name text = IsNameText text
IsGood kind.Symbol text = IsSymbolText (unquoted text)
IsGood k text = Unit {0}

abbrev CutsGood : List ℕ → Scanned → Type 0
CutsGood bs s = IsGood (with_reserved s.0 (take s.1 bs)) (take s.1 bs)

pub not_some : (o : Option Sort) → is_some o ≡ false → o ≡ None
not_some None h = refl
not_some (Some s) h = absurd (let e : true ≡ false = h in cc)

good_bad : (bs : List ℕ) → CutsGood bs (scan_bad bs)
unfolding scan_bad
good_bad bs = tt

good_name : (b : ℕ) (r : List ℕ) → is_ascii_alphabetic b ≡ true → CutsGood (b ∷ r) (scan_name (b ∷ r))
unfolding scan_name
good_name b r letter =
    let bs = b ∷ r in
    let n = prefix_len (is_in class.Name) bs in
    pick (CutsGood bs) (nat_lt 64 n) _ _ (λ _. tt)
    (λ h. pick (λ k. IsGood k (take n bs)) (is_some (keyword_of (take n bs))) kind.Key kind.Name (λ _. tt)
    (λ free. record { run = run_of class.Name name_letter bs letter (grind (arith, nat_tests)); free = not_some (keyword_of (take n bs)) free }))

good_unquoted : (b : ℕ) (r : List ℕ) → b ≡ 39 → is_ascii_alphabetic (get_or r 0 0) ≡ true → prefix_len (is_in class.Symbol) r ≤ 64 → bytes_eq (take (prefix_len (is_in class.Symbol) r) r) (codes "nil") ≡ false
    → IsSymbolText (unquoted (take (prefix_len (is_in class.Symbol) r + 1) (b ∷ r)))
unfolding unquoted
good_unquoted b r is letter short free =
    let n = prefix_len (is_in class.Symbol) r in
    let e : n + 1 ≡ suc n = omega arith in
    rw (e, is) (record { run = run_of class.Symbol symbol_letter r letter short; not_nil = free })

good_symbol : (b : ℕ) (r : List ℕ) → b ≡ 39 → CutsGood (b ∷ r) (scan_symbol (b ∷ r))
unfolding scan_symbol
good_symbol b r is =
    let n = prefix_len (is_in class.Symbol) r in
    pick (CutsGood (b ∷ r)) (is_ascii_alphabetic (get_or r 0 0)) _ _
    (λ letter. pick (CutsGood (b ∷ r)) (nat_lt 64 n) _ _ (λ _. tt)
    (λ h. pick (CutsGood (b ∷ r)) (bytes_eq (take n r) (codes "nil")) _ _ (λ _. good_bad (b ∷ r)) (λ free. good_unquoted b r is letter (grind (arith, nat_tests)) free)))
    (λ _. good_bad (b ∷ r))

good_sign : (bs : List ℕ) → CutsGood bs (scan_sign bs)
unfolding scan_sign
good_sign bs =
    pick (CutsGood bs) (begins_two (get_or bs 0 0) && nat_eq (get_or bs 1 0) 61) _ _ (λ _. tt)
    (λ _. pick (CutsGood bs) (is_single (get_or bs 0 0)) _ _ (λ _. tt) (λ _. good_bad bs))

good_scan : (b : ℕ) (r : List ℕ) → CutsGood (b ∷ r) (scan (b ∷ r))
unfolding scan
good_scan b r =
    let C : Scanned → Type 0 = CutsGood (b ∷ r) in
    pick C (is_ascii_alphabetic b) _ _ (λ h. good_name b r h)
    (λ _. pick C (is_ascii_digit b) _ _ (λ _. tt)
    (λ _. pick C (nat_eq b 39) _ _ (λ h. good_symbol b r (grind (arith, nat_tests))) (λ _. good_sign (b ∷ r))))

abbrev pub AllGood : List Piece → Type 0
AllGood = AllByRecursion (λ piece. IsGood piece.kind piece.text)

pub all_good : (skipped at : ℕ) (bs : List ℕ) → AllGood (pieces skipped at bs)
all_good skipped at [] = tt
all_good zero at (b ∷ bs) = by (gap false (b ∷ bs)) (λ n. all_good n (at + 1) bs)
  where
    by : (g : ℕ) → ((n : ℕ) → AllGood (pieces n (at + 1) bs)) → AllGood (behind_gap g at (b ∷ bs) (λ n. pieces n (at + 1) bs))
    by zero h = (good_scan b bs, h ((scan (b ∷ bs)).1 - 1))
    by (suc g) h = h g
all_good (suc n) at (b ∷ bs) = all_good n (at + 1) bs
