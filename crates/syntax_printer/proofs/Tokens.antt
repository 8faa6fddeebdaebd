-- Names, symbols and numbers that are written before something that doesn't prolong them.
use Rattle.std.proofs.Common.{◌≡◌, ℕ, suc, ◌+◌, ◌-◌, ◌*◌, ◌/◌, ◌%◌, ◌^◌, ◌<◌, ◌≤◌, Bool, true, false, cond, List, [], ◌∷◌, ◌++◌, length, take, Option, Some, None, slice_get, refl, sym, ap, ◌∙◌, arith, nat_lt, nat_eq, length-append}
use Rattle.std.specs.Prelude.{◌||◌, is_some, codes, unwrap_or}
use Rattle.std.specs.Char.{is_ascii_alphabetic, is_ascii_digit, is_ascii_alphanumeric}
use Rattle.std.specs.Fmt.{decimal}
use Rattle.std.specs.List.{prefix_len, AllByRecursion}
use Rattle.std.specs.Str.{bytes_eq}
use Rattle.std.proofs.Math.Seq.{take_at}
use Rattle.std.proofs.lemmas.Bool.{both_ways, cond-true, cond-false}
use Rattle.std.proofs.lemmas.Bool.Decides.{nat_tests}
use Rattle.std.proofs.lemmas.Fmt.{decimal_by_steps}
use Rattle.session_values.specs.Names.{AreDistinct, place_of, with_text}
use Rattle.session_values.proofs.NamesLemmas.{known_at, with_known, place_is}
use Rattle.syntax_grammar.specs.declared.scan.Class.TheVariants as class
use Rattle.syntax_grammar.specs.declared.token_kind.TokenKind.TheVariants as kind
use Rattle.syntax_grammar.specs.declared.word.Sort.TheVariants as sort
use Rattle.syntax_grammar.specs.Scan.{is_in, gap, scan, scan_name, scan_symbol, name_of_length, symbol_of_length}
use Rattle.syntax_grammar.specs.Keyword.{keyword_of, statement_word_of}
use Rattle.syntax_grammar.specs.Words.{number_from, number_of, unquoted, names_by, sort_by}
use Rattle.syntax_grammar.proofs.Longest.{digit_no_letter}
use Rattle.syntax_grammar.proofs.OneToken.{not_long}
use Rattle.syntax_printer.specs.Canonical.{name_text}
use Rattle.syntax_grammar.specs.Texts.{IsRun, IsNameText, IsSymbolText, text_at}
use Rattle.syntax_printer.proofs.Lexing.{behind, reading, token}
use Rattle.session_values.proofs.Lists.{all_join}

-- ---- what ends a token

-- no token goes on with the first byte
abbrev pub Ends : List ℕ → Type 0
Ends [] = Unit {0}
Ends (b ∷ bs) = is_in class.Symbol b ≡ false

abbrev Stops : (ℕ → Bool) → List ℕ → Type 0
Stops p [] = Unit {0}
Stops p (b ∷ bs) = p b ≡ false

or_front : (x y z : Bool) → (x || (y || z)) ≡ false → (x || y) ≡ false
or_front true y z h = h
or_front false true z h = h
or_front false false z h = refl

or_first : (x y z w : Bool) → (((x || y) || z) || w) ≡ false → x ≡ false
or_first true y z w h = h
or_first false y z w h = refl

stops_symbol : (rest : List ℕ) → Ends rest → Stops (is_in class.Symbol) rest
stops_symbol [] h = tt
stops_symbol (b ∷ bs) h = h

stops_name : (rest : List ℕ) → Ends rest → Stops (is_in class.Name) rest
stops_name [] h = tt
stops_name (b ∷ bs) h = or_front (is_ascii_alphanumeric b) (nat_eq b 95) _ h

stops_digit : (rest : List ℕ) → Ends rest → Stops (is_in class.Digit) rest
stops_digit [] h = tt
stops_digit (b ∷ bs) h = or_first (is_ascii_digit b) _ _ _ h

prefix_none : (p : ℕ → Bool) (rest : List ℕ) → Stops p rest → prefix_len p rest ≡ 0
prefix_none p [] h = refl
prefix_none p (b ∷ bs) h = ap (λ t. cond t (1 + prefix_len p bs) 0) h

abbrev AllPass : (ℕ → Bool) → List ℕ → Type 0
AllPass p xs = AllByRecursion (λ b. p b ≡ true) xs

prefix_all : (p : ℕ → Bool) (xs rest : List ℕ) → AllPass p xs → Stops p rest → prefix_len p (xs ++ rest) ≡ length xs
prefix_all p [] rest h s = prefix_none p rest s
prefix_all p (x ∷ xs) rest h s = ap (λ t. cond t (1 + prefix_len p (xs ++ rest)) 0) h.0 ∙ (let e = prefix_all p xs rest h.1 s in omega (arith, e))

-- ---- what begins a token is no blank

other : (p : ℕ → Bool) (b c : ℕ) → p b ≡ true → p c ≡ false → nat_eq b c ≡ false
other p b c yes_b no_c = by (nat_eq b c) refl
  where
    by : (t : Bool) → nat_eq b c ≡ t → t ≡ false
    by false e = refl
    by true e = let same : b ≡ c = grind (arith, nat_tests) in absurd (both_ways (p b) (ap p same ∙ no_c) yes_b)

no_gap : (p : ℕ → Bool) (b : ℕ) (bs : List ℕ) → p b ≡ true → p 10 ≡ false → p 35 ≡ false → p 32 ≡ false → p 9 ≡ false → p 13 ≡ false → gap false (b ∷ bs) ≡ 0
no_gap p b bs h a c d e f =
    let not_line = other p b 10 h a in
    let not_hash = other p b 35 h c in
    let not_space = other p b 32 h d in
    let not_tab = other p b 9 h e in
    let not_return = other p b 13 h f in
    rw (not_line, not_hash, not_space, not_tab, not_return) refl

-- ---- names

scan_run : (b : ℕ) (bs rest : List ℕ) → IsRun class.Name (b ∷ bs) → Ends rest → scan ((b ∷ bs) ++ rest) ≡ (kind.Name, length (b ∷ bs))
unfolding scan scan_name
scan_run b bs rest r ends =
    cond-true (is_ascii_alphabetic b) _ _ r.letter ∙ ap name_of_length (prefix_all (is_in class.Name) (b ∷ bs) rest r.run (stops_name rest ends)) ∙ cond-false (nat_lt 64 (length (b ∷ bs))) _ _ (not_long _ r.short)

-- the list has the text at the place
record At (names : List (List ℕ)) (place : ℕ) (text : List ℕ) : Type 0 where
  known : with_text names text ≡ names
  place_of_text : place_of names text ≡ place

at : (names : List (List ℕ)) (place : ℕ) (text : List ℕ) → AreDistinct names → slice_get names place ≡ Some text → At names place text
at names place text d e = record { known = with_known names text (known_at text names place e); place_of_text = sym (place_is text names place d e) }

pub name : (names : List (List ℕ)) (place : ℕ) (rest : List ℕ) → AreDistinct names → IsNameText (text_at names place) → Ends rest → reading names (name_text names place rest) ≡ behind (λ ss. sort.Name place ∷ ss) (reading names rest)
name names place rest d is ends = by (slice_get names place) refl is
  where
    by : (o : Option (List ℕ)) → slice_get names place ≡ o → IsNameText (unwrap_or o []) → reading names (unwrap_or o [] ++ rest) ≡ behind (λ ss. sort.Name place ∷ ss) (reading names rest)
    by None e t = absurd (both_ways false refl t.run.letter)
    by (Some []) e t = absurd (both_ways false refl t.run.letter)
    by (Some (b ∷ bs)) e t =
        let a = at names place (b ∷ bs) d e in
        let plain : is_some (keyword_of (b ∷ bs)) ≡ false = ap is_some t.free in
        let k = cond-false (is_some (keyword_of (b ∷ bs))) kind.Key kind.Name plain in
        token names b bs rest kind.Name (sort.Name place) (no_gap is_ascii_alphabetic b (bs ++ rest) t.run.letter refl refl refl refl refl) (scan_run b bs rest t.run ends)
        (ap (λ x. names_by x (b ∷ bs) names) k ∙ a.known) (ap (λ x. sort_by x (b ∷ bs) names) k ∙ ap sort.Name a.place_of_text)

pub nil : (names : List (List ℕ)) (rest : List ℕ) → Ends rest → reading names (codes "nil" ++ rest) ≡ behind (λ ss. sort.Nil ∷ ss) (reading names rest)
unfolding keyword_of statement_word_of
nil names rest ends =
    let run : IsRun class.Name (110 ∷ 105 ∷ 108 ∷ []) = record { letter = refl; run = (refl, (refl, (refl, tt))); short = omega arith } in
    token names 110 (105 ∷ 108 ∷ []) rest kind.Name sort.Nil refl (scan_run 110 (105 ∷ 108 ∷ []) rest run ends) refl refl

-- ---- symbols

scan_quoted : (b : ℕ) (bs rest : List ℕ) → IsSymbolText (b ∷ bs) → Ends rest → scan (39 ∷ (b ∷ bs) ++ rest) ≡ (kind.Symbol, length (39 ∷ b ∷ bs))
unfolding scan scan_symbol
scan_quoted b bs rest t ends =
    let whole = 39 ∷ (b ∷ bs) ++ rest in
    let run = (b ∷ bs) ++ rest in
    let n = length (b ∷ bs) in
    let same : take n run ≡ b ∷ bs = take_at (b ∷ bs) rest n refl in
    cond-true (is_ascii_alphabetic b) _ _ t.run.letter ∙ ap (symbol_of_length whole run) (prefix_all (is_in class.Symbol) (b ∷ bs) rest t.run.run (stops_symbol rest ends))
    ∙ cond-false (nat_lt 64 n) _ _ (not_long n t.run.short) ∙ cond-false (bytes_eq (take n run) (codes "nil")) _ _ (ap (λ x. bytes_eq x (codes "nil")) same ∙ t.not_nil)
    ∙ (let e : n + 1 ≡ suc n = omega arith in λ i. (kind.Symbol, e i))

pub symbol : (names : List (List ℕ)) (place : ℕ) (rest : List ℕ) → AreDistinct names → IsSymbolText (text_at names place) → Ends rest → reading names (codes "'" ++ name_text names place rest) ≡ behind (λ ss. sort.Symbol place ∷ ss) (reading names rest)
unfolding unquoted
symbol names place rest d is ends = by (slice_get names place) refl is
  where
    by : (o : Option (List ℕ)) → slice_get names place ≡ o → IsSymbolText (unwrap_or o []) → reading names (39 ∷ unwrap_or o [] ++ rest) ≡ behind (λ ss. sort.Symbol place ∷ ss) (reading names rest)
    by None e t = absurd (both_ways false refl t.run.letter)
    by (Some []) e t = absurd (both_ways false refl t.run.letter)
    by (Some (b ∷ bs)) e t =
        let a = at names place (b ∷ bs) d e in
        token names 39 (b ∷ bs) rest kind.Symbol (sort.Symbol place) refl (scan_quoted b bs rest t ends) a.known (ap sort.Symbol a.place_of_text)

-- ---- numbers

record Digits (n : ℕ) (ds : List ℕ) : Type 0 where
  some : 0 < length ds
  run : AllPass (is_in class.Digit) ds
  value : number_from 0 ds ≡ n

number_last : (n : ℕ) (ds : List ℕ) (d : ℕ) → number_from n (ds ++ d ∷ []) ≡ number_from n ds * 10 + (d - 48)
number_last n [] d = refl
number_last n (x ∷ xs) d = number_last (n * 10 + (x - 48)) xs d

digit : (n : ℕ) → n < 10 → is_ascii_digit (48 + n) ≡ true
digit n h = grind (arith, nat_tests)

digits_one : (n : ℕ) → n < 10 → Digits n ((48 + n) ∷ [])
digits_one n h = record { some = omega arith; run = (digit n h, tt); value = omega arith }

digits_more : (n : ℕ) (ds : List ℕ) → 10 ≤ n → Digits (n / 10) ds → Digits n (ds ++ ((48 + n % 10) ∷ []))
digits_more n ds h d = record {
  some = omega (arith, length-append ds ((48 + n % 10) ∷ []));
  run = all_join _ ds _ d.run (digit (n % 10) (omega arith), tt);
  value = number_last 0 ds (48 + n % 10) ∙ (let v = d.value in omega arith);
}

number_is : (n : ℕ) (ds : List ℕ) → n < 2 ^ 64 → number_from 0 ds ≡ n → number_of ds ≡ n
unfolding number_of
number_is n ds h e = omega (arith, e)

scan_digits : (b : ℕ) (bs rest : List ℕ) → AllPass (is_in class.Digit) (b ∷ bs) → Ends rest → scan ((b ∷ bs) ++ rest) ≡ (kind.Number, length (b ∷ bs))
unfolding scan
scan_digits b bs rest run ends =
    cond-false (is_ascii_alphabetic b) _ _ (digit_no_letter b run.0) ∙ cond-true (is_ascii_digit b) _ _ run.0
    ∙ ap (λ (m : ℕ). (kind.Number, m)) (prefix_all (is_in class.Digit) (b ∷ bs) rest run (stops_digit rest ends))

pub number : (names : List (List ℕ)) (n : ℕ) (rest : List ℕ) → n < 2 ^ 64 → Ends rest → reading names (decimal n ++ rest) ≡ behind (λ ss. sort.Number n ∷ ss) (reading names rest)
number names n rest small ends = by (decimal n) (decimal_by_steps Digits digits_one digits_more n small)
  where
    by : (ds : List ℕ) → Digits n ds → reading names (ds ++ rest) ≡ behind (λ ss. sort.Number n ∷ ss) (reading names rest)
    by [] d = absurd (omega (arith, d.some))
    by (b ∷ bs) d =
        token names b bs rest kind.Number (sort.Number n) (no_gap is_ascii_digit b (bs ++ rest) d.run.0 refl refl refl refl refl) (scan_digits b bs rest d.run ends) refl (ap sort.Number (number_is n (b ∷ bs) small d.value))
