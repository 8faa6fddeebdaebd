-- What is cut from the front of a text is the longest token there.
use Rattle.std.proofs.Common.{◌≡◌, ℕ, zero, suc, ◌+◌, ◌-◌, ◌<◌, ◌≤◌, ◌⊎◌, inl, inr, Bool, true, false, cond, List, [], ◌∷◌, length, get_or, take, drop, Option, Some, None, refl, sym, ap, ◌∙◌, subst, arith, nat_lt, nat_eq, length-take, rules}
use Rattle.std.specs.Prelude.{◌||◌, ◌&&◌, codes, is_some}
use Rattle.std.specs.Char.{is_ascii_digit, is_ascii_alphabetic}
use Rattle.std.specs.List.{prefix_len, AllByRecursion}
use Rattle.std.specs.Str.{bytes_eq}
use Rattle.std.proofs.lemmas.Bool.Decides.{nat_tests}
use Rattle.std.proofs.lemmas.Slice.Eq.{bytes_eq-Decides}
use Rattle.std.proofs.lemmas.Bool.{both_ways, and_parts, or_parts}
use Rattle.std.proofs.lemmas.List.Sums.{prefix_len-le-length}
use Rattle.syntax_grammar.specs.declared.scan.Class.TheVariants as class
use Rattle.syntax_grammar.specs.declared.token_kind.TokenKind.{TokenKind}
use Rattle.syntax_grammar.specs.declared.token_kind.TokenKind.TheVariants as kind
use Rattle.syntax_grammar.specs.declared.word.Sort.{Sort}
use Rattle.syntax_grammar.specs.Keyword.{sort_in, keyword_of, sign_of, operation_of, statement_word_of, operations, statement_words, signs, or_else}
use Rattle.syntax_grammar.specs.Longest.{IsDigits, IsLongRun, IsQuoted, IsShape, IsLongest, IsQuotedNil, IsFirstToken}
use Rattle.syntax_grammar.specs.Scan.{Scanned, begins_two, is_single, is_in, scan, scan_name, scan_bad, scan_symbol, scan_sign}
use Rattle.syntax_grammar.specs.Texts.{IsSymbolText}
use Rattle.syntax_grammar.specs.Tokens.{with_reserved}
use Rattle.syntax_grammar.proofs.Cut.{pick}
use Rattle.syntax_grammar.proofs.WordKinds.{one_sign, told_two}
use Rattle.syntax_grammar.proofs.TextTokens.{run_of, name_letter, symbol_letter, not_some, run_taken, run_begins}

-- ---- runs

abbrev pub AllPass : (ℕ → Bool) → List ℕ → Type 0
AllPass p xs = AllByRecursion (λ b. p b ≡ true) xs

-- no longer front passes a test than the longest that does
longer_run : (p : ℕ → Bool) (xs : List ℕ) (m : ℕ) → prefix_len p xs < m → m ≤ length xs → AllPass p (take m xs) → ⊥
longer_run p xs zero h l a = absurd (omega (arith, h))
longer_run p [] (suc m) h l a = absurd (omega (arith, l))
longer_run p (x ∷ xs) (suc m) h l a =
    let on : prefix_len p (x ∷ xs) ≡ 1 + prefix_len p xs = ap (λ t. cond t (1 + prefix_len p xs) 0) a.0 in
    longer_run p xs m (omega (arith, h, on)) (omega (arith, l)) a.1

-- ---- the texts of the tables

abbrev pub AllRows : (List ℕ → Type 0) → List (List ℕ × Sort) → Type 0
AllRows P [] = Unit {0}
AllRows P (row ∷ rows) = P row.0 × AllRows P rows

abbrev pub Among : (List ℕ → Type 0) → List ℕ → Option Sort → Type 0
Among P t o = is_some o ≡ true → P t

pub in_rows : (P : List ℕ → Type 0) (rows : List (List ℕ × Sort)) (t : List ℕ) → AllRows P rows → Among P t (sort_in rows t)
in_rows P [] t h = λ e. absurd (let f : false ≡ true = e in cc)
in_rows P (row ∷ rows) t h =
    pick (Among P t) (bytes_eq t row.0) (Some row.1) (sort_in rows t) (λ same _. subst P (sym ((bytes_eq-Decides t row.0).0 same)) h.0) (λ _. in_rows P rows t h.1)

pub in_either : (P : List ℕ → Type 0) (t : List ℕ) (o other : Option Sort) → Among P t o → Among P t other → Among P t (or_else o other)
in_either P t None other h k = k
in_either P t (Some s) other h k = h

-- a reserved word is letters
pub record IsLetters (t : List ℕ) : Type 0 where
  pub letter : is_ascii_alphabetic (get_or t 0 0) ≡ true
  pub run : AllPass (is_in class.Name) t

pub key_letters : (t : List ℕ) → is_some (keyword_of t) ≡ true → IsLetters t
unfolding keyword_of statement_word_of operation_of
key_letters t = in_either IsLetters t (sort_in statement_words t) (sort_in operations t) (in_rows IsLetters statement_words t (search rules)) (in_rows IsLetters operations t (search rules))

-- a sign is one byte or two
abbrev pub is_pair : List ℕ → Bool
is_pair t = begins_two (get_or t 0 0) && nat_eq (get_or t 1 0) 61

pub record IsSigns (t : List ℕ) : Type 0 where
  pub other : (is_ascii_alphabetic (get_or t 0 0) || is_ascii_digit (get_or t 0 0)) ≡ false
  pub unquoted : nat_eq (get_or t 0 0) 39 ≡ false
  pub form : ((length t ≡ 1) × (is_single (get_or t 0 0) ≡ true)) ⊎ ((length t ≡ 2) × (is_pair t ≡ true))

pub sign_form : (t : List ℕ) → is_some (sign_of t) ≡ true → IsSigns t
unfolding sign_of
sign_form t = in_rows IsSigns signs t (
  record { other = refl; unquoted = refl; form = inl (refl, refl) },
  (
    record { other = refl; unquoted = refl; form = inl (refl, refl) },
    (
      record { other = refl; unquoted = refl; form = inl (refl, refl) },
      (
        record { other = refl; unquoted = refl; form = inl (refl, refl) },
        (
          record { other = refl; unquoted = refl; form = inl (refl, refl) },
          (
            record { other = refl; unquoted = refl; form = inl (refl, refl) },
            (
              record { other = refl; unquoted = refl; form = inl (refl, refl) },
              (
                record { other = refl; unquoted = refl; form = inr (refl, refl) },
                (
                  record { other = refl; unquoted = refl; form = inr (refl, refl) },
                  (
                    record { other = refl; unquoted = refl; form = inl (refl, refl) },
                    (
                      record { other = refl; unquoted = refl; form = inr (refl, refl) },
                      (
                        record { other = refl; unquoted = refl; form = inl (refl, refl) },
                        (
                          record { other = refl; unquoted = refl; form = inl (refl, refl) },
                          (record { other = refl; unquoted = refl; form = inl (refl, refl) }, tt),
                        ),
                      ),
                    ),
                  ),
                ),
              ),
            ),
          ),
        ),
      ),
    ),
  ),
)

-- ---- what the first byte excludes

-- a front that isn't empty begins as the text does
front_first : (b : ℕ) (r : List ℕ) (m : ℕ) → 0 < m → get_or (take m (b ∷ r)) 0 0 ≡ b
front_first b r zero h = absurd (omega (arith, h))
front_first b r (suc m) h = refl

pub digit_no_letter : (b : ℕ) → is_ascii_digit b ≡ true → is_ascii_alphabetic b ≡ false
digit_no_letter b h = grind (arith, nat_tests)

digit_in_name : (b : ℕ) → is_ascii_digit b ≡ true → is_in class.Name b ≡ true
digit_in_name b h = grind (arith, nat_tests)

digits_in_name : (xs : List ℕ) → AllPass (is_in class.Digit) xs → AllPass (is_in class.Name) xs
digits_in_name [] h = tt
digits_in_name (x ∷ xs) h = (digit_in_name x h.0, digits_in_name xs h.1)

pub first_digit : (xs : List ℕ) → IsDigits xs → is_ascii_digit (get_or xs 0 0) ≡ true
first_digit [] h = absurd (omega (arith, h.some))
first_digit (x ∷ xs) h = h.run.0

module _ (b : ℕ) (r : List ℕ) (m : ℕ) (some : 0 < m) where
  first : get_or (take m (b ∷ r)) 0 0 ≡ b
  first = front_first b r m some

  quoted_first : (P : List ℕ → Type 0) → IsQuoted P (take m (b ∷ r)) → b ≡ 39
  quoted_first P q = sym first ∙ ap (λ t. get_or t 0 0) q.is

  -- behind a quote a front is a front of what follows
  quoted_rest : (P : List ℕ → Type 0) → IsQuoted P (take m (b ∷ r)) → P (take (m - 1) r)
  quoted_rest P q = by m some q.is
    where
      by : (m : ℕ) → 0 < m → take m (b ∷ r) ≡ 39 ∷ q.run → P (take (m - 1) r)
      by zero h e = absurd (omega (arith, h))
      by (suc n) h e = let k : suc n - 1 ≡ n = omega arith in subst (λ i. P (take i r)) (sym k) (subst P (sym (ap (drop 1) e)) q.good)

  no_letter : is_ascii_alphabetic b ≡ false → is_ascii_alphabetic (get_or (take m (b ∷ r)) 0 0) ≡ true → ⊥
  no_letter h k = both_ways (is_ascii_alphabetic b) h (ap is_ascii_alphabetic (sym first) ∙ k)

-- ---- names and reserved words

longest_name : (b : ℕ) (r : List ℕ) → is_ascii_alphabetic b ≡ true → IsLongest (b ∷ r) (prefix_len (is_in class.Name) (b ∷ r))
longest_name b r letter k m h l s = by k s
  where
    some : 0 < m
    some = omega (arith, h)

    longer : AllPass (is_in class.Name) (take m (b ∷ r)) → ⊥
    longer a = longer_run (is_in class.Name) (b ∷ r) m h l a

    quote : b ≡ 39 → ⊥
    quote e = both_ways (is_ascii_alphabetic b) (ap is_ascii_alphabetic e) letter

    by : (k : TokenKind) → IsShape k (take m (b ∷ r)) → ⊥
    by kind.Name t = longer t.run.run
    by kind.Key t = longer (key_letters (take m (b ∷ r)) t).run
    by kind.Symbol t = quote (quoted_first b r m some _ t)
    by kind.Number t = longer (digits_in_name (take m (b ∷ r)) t.run)
    by kind.Sign t = both_ways (is_ascii_alphabetic b) (ap is_ascii_alphabetic (sym (first b r m some)) ∙ (or_parts _ _ (sign_form (take m (b ∷ r)) t).other).0) letter
    by kind.Long (inl t) = longer t.run
    by kind.Long (inr t) = quote (quoted_first b r m some _ t)
    by kind.Bad t = t
    by kind.End t = t

-- ---- numbers

longest_number : (b : ℕ) (r : List ℕ) → is_ascii_digit b ≡ true → IsLongest (b ∷ r) (prefix_len (is_in class.Digit) (b ∷ r))
longest_number b r digit k m h l s = by k s
  where
    some : 0 < m
    some = omega (arith, h)

    letter : is_ascii_alphabetic (get_or (take m (b ∷ r)) 0 0) ≡ true → ⊥
    letter e = no_letter b r m some (digit_no_letter b digit) e

    quote : b ≡ 39 → ⊥
    quote e = both_ways (is_ascii_digit b) (ap is_ascii_digit e) digit

    by : (k : TokenKind) → IsShape k (take m (b ∷ r)) → ⊥
    by kind.Name t = letter t.run.letter
    by kind.Key t = letter (key_letters (take m (b ∷ r)) t).letter
    by kind.Symbol t = quote (quoted_first b r m some _ t)
    by kind.Number t = longer_run (is_in class.Digit) (b ∷ r) m h l t.run
    by kind.Sign t = both_ways (is_ascii_digit b) (ap is_ascii_digit (sym (first b r m some)) ∙ (or_parts _ _ (sign_form (take m (b ∷ r)) t).other).1) digit
    by kind.Long (inl t) = letter t.letter
    by kind.Long (inr t) = quote (quoted_first b r m some _ t)
    by kind.Bad t = t
    by kind.End t = t

-- ---- symbols

-- behind a quote only a symbol, or one that is too long, is a token
at_quote : (r : List ℕ) (m : ℕ) → 0 < m → (k : TokenKind) → IsShape k (take m (39 ∷ r)) → (P : Type 0) → (IsSymbolText (take (m - 1) r) → P) → (IsLongRun class.Symbol (take (m - 1) r) → P) → P
at_quote r m some kind.Name t P f g = absurd (no_letter 39 r m some refl t.run.letter)
at_quote r m some kind.Key t P f g = absurd (no_letter 39 r m some refl (key_letters (take m (39 ∷ r)) t).letter)
at_quote r m some kind.Symbol t P f g = f (quoted_rest 39 r m some _ t)
at_quote r m some kind.Number t P f g = absurd (let d = first_digit (take m (39 ∷ r)) t in let e : false ≡ true = ap is_ascii_digit (sym (first 39 r m some)) ∙ d in cc)
at_quote r m some kind.Sign t P f g = absurd (let e : true ≡ false = ap (λ x. nat_eq x 39) (sym (first 39 r m some)) ∙ (sign_form (take m (39 ∷ r)) t).unquoted in cc)
at_quote r m some kind.Long (inl t) P f g = absurd (no_letter 39 r m some refl t.letter)
at_quote r m some kind.Long (inr t) P f g = g (quoted_rest 39 r m some _ t)
at_quote r m some kind.Bad t P f g = absurd t
at_quote r m some kind.End t P f g = absurd t

longest_quoted : (r : List ℕ) → IsLongest (39 ∷ r) (prefix_len (is_in class.Symbol) r + 1)
longest_quoted r k m h l s =
    let more : prefix_len (is_in class.Symbol) r < m - 1 = omega (arith, h) in
    let most : m - 1 ≤ length r = omega (arith, l, h) in
    at_quote r m (omega (arith, h)) k s ⊥ (λ t. longer_run (is_in class.Symbol) r (m - 1) more most t.run.run) (λ t. longer_run (is_in class.Symbol) r (m - 1) more most t.run)

first_letter : (r : List ℕ) (n : ℕ) → is_ascii_alphabetic (get_or (take n r) 0 0) ≡ true → is_ascii_alphabetic (get_or r 0 0) ≡ true
first_letter r zero h = absurd (let e : false ≡ true = h in cc)
first_letter [] (suc n) h = h
first_letter (x ∷ r) (suc n) h = h

none_quoted : (r : List ℕ) → is_ascii_alphabetic (get_or r 0 0) ≡ false → IsLongest (39 ∷ r) 0
none_quoted r off k m h l s =
    at_quote r m h k s ⊥ (λ t. both_ways _ off (first_letter r (m - 1) t.run.letter)) (λ t. both_ways _ off (first_letter r (m - 1) t.letter))

-- ---- signs

pair_front : (b : ℕ) (r : List ℕ) (m : ℕ) → length (take m (b ∷ r)) ≡ 2 → is_pair (take m (b ∷ r)) ≡ is_pair (b ∷ r)
pair_front b r zero h = absurd (omega (arith, h))
pair_front b [] (suc zero) h = absurd (omega (arith, h))
pair_front b (x ∷ r) (suc zero) h = absurd (omega (arith, h))
pair_front b [] (suc (suc m)) h = absurd (omega (arith, h))
pair_front b (x ∷ r) (suc (suc m)) h = refl

at_sign : (b : ℕ) (r : List ℕ) (m : ℕ) → 0 < m → m ≤ length (b ∷ r) → is_ascii_alphabetic b ≡ false → is_ascii_digit b ≡ false → nat_eq b 39 ≡ false → (k : TokenKind) → IsShape k (take m (b ∷ r)) → ((m ≡ 1) × (is_single b ≡ true)) ⊎ ((m ≡ 2) × (is_pair (b ∷ r) ≡ true))
at_sign b r m some l letter digit quote k s = by k s
  where
    no_quote : b ≡ 39 → ⊥
    no_quote e = let f : true ≡ false = ap (λ x. nat_eq x 39) (sym e) ∙ quote in cc

    long : length (take m (b ∷ r)) ≡ m
    long = omega (arith, length-take m (b ∷ r), l)

    of_form : ((length (take m (b ∷ r)) ≡ 1) × (is_single (get_or (take m (b ∷ r)) 0 0) ≡ true)) ⊎ ((length (take m (b ∷ r)) ≡ 2) × (is_pair (take m (b ∷ r)) ≡ true)) → ((m ≡ 1) × (is_single b ≡ true)) ⊎ ((m ≡ 2) × (is_pair (b ∷ r) ≡ true))
    of_form (inl f) = inl (sym long ∙ f.0, ap is_single (sym (first b r m some)) ∙ f.1)
    of_form (inr f) = inr (sym long ∙ f.0, sym (pair_front b r m f.0) ∙ f.1)

    by : (k : TokenKind) → IsShape k (take m (b ∷ r)) → ((m ≡ 1) × (is_single b ≡ true)) ⊎ ((m ≡ 2) × (is_pair (b ∷ r) ≡ true))
    by kind.Name t = absurd (no_letter b r m some letter t.run.letter)
    by kind.Key t = absurd (no_letter b r m some letter (key_letters (take m (b ∷ r)) t).letter)
    by kind.Symbol t = absurd (no_quote (quoted_first b r m some _ t))
    by kind.Number t = absurd (both_ways (is_ascii_digit b) digit (ap is_ascii_digit (sym (first b r m some)) ∙ first_digit (take m (b ∷ r)) t))
    by kind.Sign t = of_form (sign_form (take m (b ∷ r)) t).form
    by kind.Long (inl t) = absurd (no_letter b r m some letter t.letter)
    by kind.Long (inr t) = absurd (no_quote (quoted_first b r m some _ t))
    by kind.Bad t = absurd t
    by kind.End t = absurd t

-- ---- the first token

abbrev IsFirst : List ℕ → Scanned → Type 0
IsFirst bs s = IsFirstToken bs (with_reserved s.0 (take s.1 bs)) s.1

first_bad : (bs : List ℕ) → IsLongest bs 0 ⊎ IsQuotedNil bs → IsFirst bs (scan_bad bs)
unfolding scan_bad
first_bad bs h = (refl, h)

first_name : (b : ℕ) (r : List ℕ) → is_ascii_alphabetic b ≡ true → IsFirst (b ∷ r) (scan_name (b ∷ r))
unfolding scan_name
first_name b r letter =
    let bs = b ∷ r in
    let n = prefix_len (is_in class.Name) bs in
    let longest = longest_name b r letter in
    pick (IsFirst bs) (nat_lt 64 n) _ _
    (λ h. (inl (record { letter = run_letter; run = run_taken (is_in class.Name) bs; long = omega (arith, length-take n bs, prefix_len-le-length (is_in class.Name) bs, long h) }), longest, fits, unquoted))
    (λ h. pick (λ k. IsFirstToken bs k n) (is_some (keyword_of (take n bs))) kind.Key kind.Name (λ key. (key, longest, fits, unquoted))
    (λ free. (record { run = run_of class.Name name_letter bs letter (grind (arith, nat_tests)); free = not_some (keyword_of (take n bs)) free }, longest, fits, unquoted)))
  where
    fits : prefix_len (is_in class.Name) (b ∷ r) ≤ length (b ∷ r)
    fits = prefix_len-le-length (is_in class.Name) (b ∷ r)

    unquoted : IsQuotedNil (b ∷ r) → ⊥
    unquoted q = both_ways (is_ascii_alphabetic b) (ap is_ascii_alphabetic q.quote) letter

    long : nat_lt 64 (prefix_len (is_in class.Name) (b ∷ r)) ≡ true → 64 < prefix_len (is_in class.Name) (b ∷ r)
    long h = grind (arith, nat_tests)

    run_letter : is_ascii_alphabetic (get_or (take (prefix_len (is_in class.Name) (b ∷ r)) (b ∷ r)) 0 0) ≡ true
    run_letter = ap is_ascii_alphabetic (run_begins (is_in class.Name) b r (name_letter b letter)) ∙ letter

first_symbol : (r : List ℕ) → IsFirst (39 ∷ r) (scan_symbol (39 ∷ r))
unfolding scan_symbol
first_symbol r =
    let bs = 39 ∷ r in
    let n = prefix_len (is_in class.Symbol) r in
    let one : n + 1 ≡ suc n = omega arith in
    let cut : take (n + 1) bs ≡ 39 ∷ take n r = ap (λ i. take i bs) one in
    pick (IsFirst bs) (is_ascii_alphabetic (get_or r 0 0)) _ _
    (λ letter. pick (IsFirst bs) (nat_lt 64 n) _ _
    (λ h. (inr (record { run = take n r; is = cut; good = record { letter = letter_of r letter; run = run_taken (is_in class.Symbol) r; long = omega (arith, length-take n r, prefix_len-le-length (is_in class.Symbol) r, long h) } }), longest_quoted r, fits, λ q. short_nil q (long h)))
    (λ h. pick (IsFirst bs) (bytes_eq (take n r) (codes "nil")) _ _
    (λ nil. first_bad bs (inr (record { quote = refl; run = (bytes_eq-Decides (take n r) (codes "nil")).0 nil })))
    (λ free. (record { run = take n r; is = cut; good = record { run = run_of class.Symbol symbol_letter r letter (grind (arith, nat_tests)); not_nil = free } }, longest_quoted r, fits, λ q. both_ways _ free ((bytes_eq-Decides (take n r) (codes "nil")).1 q.run)))))
    (λ off. first_bad bs (inl (none_quoted r off)))
  where
    fits : prefix_len (is_in class.Symbol) r + 1 ≤ length (39 ∷ r)
    fits = omega (arith, prefix_len-le-length (is_in class.Symbol) r)

    short_nil : IsQuotedNil (39 ∷ r) → 64 < prefix_len (is_in class.Symbol) r → ⊥
    short_nil q l =
        let e : length (take (prefix_len (is_in class.Symbol) r) r) ≡ 3 = ap length q.run in
        absurd (omega (arith, e, l, length-take (prefix_len (is_in class.Symbol) r) r, prefix_len-le-length (is_in class.Symbol) r))

    long : nat_lt 64 (prefix_len (is_in class.Symbol) r) ≡ true → 64 < prefix_len (is_in class.Symbol) r
    long h = grind (arith, nat_tests)

    letter_of : (r : List ℕ) → is_ascii_alphabetic (get_or r 0 0) ≡ true → is_ascii_alphabetic (get_or (take (prefix_len (is_in class.Symbol) r) r) 0 0) ≡ true
    letter_of [] h = absurd (let e : false ≡ true = h in cc)
    letter_of (x ∷ xs) h = ap is_ascii_alphabetic (run_begins (is_in class.Symbol) x xs (symbol_letter x h)) ∙ h

first_number : (b : ℕ) (r : List ℕ) → is_ascii_digit b ≡ true → IsFirst (b ∷ r) (kind.Number, prefix_len (is_in class.Digit) (b ∷ r))
first_number b r digit =
    let n = prefix_len (is_in class.Digit) (b ∷ r) in
    let on : n ≡ 1 + prefix_len (is_in class.Digit) r = ap (λ t. cond t (1 + prefix_len (is_in class.Digit) r) 0) digit in
    (record { some = omega (arith, length-take n (b ∷ r), prefix_len-le-length (is_in class.Digit) (b ∷ r), on); run = run_taken (is_in class.Digit) (b ∷ r) }, longest_number b r digit, prefix_len-le-length (is_in class.Digit) (b ∷ r), λ q. both_ways (is_ascii_digit b) (ap is_ascii_digit q.quote) digit)

first_sign : (b : ℕ) (r : List ℕ) → is_ascii_alphabetic b ≡ false → is_ascii_digit b ≡ false → nat_eq b 39 ≡ false → IsFirst (b ∷ r) (scan_sign (b ∷ r))
unfolding scan_sign
first_sign b r letter digit quote =
    pick (IsFirst (b ∷ r)) (begins_two b && nat_eq (get_or r 0 0) 61) _ _
    (λ two. (told_two b r (and_parts (begins_two b) _ two).0 (and_parts (begins_two b) _ two).1, no_more 2 (λ m h f. omega (arith, h, f.0)) (λ m h f. omega (arith, h, f.0)), omega (arith, second r (and_parts (begins_two b) _ two).1), unquoted))
    (λ not_two. pick (IsFirst (b ∷ r)) (is_single b) _ _
    (λ one. (one_sign b one, no_more 1 (λ m h f. omega (arith, h, f.0)) (λ m h f. both_ways _ not_two f.1), omega arith, unquoted))
    (λ not_one. first_bad (b ∷ r) (inl (no_more 0 (λ m h f. both_ways _ not_one f.1) (λ m h f. both_ways _ not_two f.1)))))
  where
    second : (r : List ℕ) → nat_eq (get_or r 0 0) 61 ≡ true → 0 < length r
    second [] e = absurd (let f : false ≡ true = e in cc)
    second (x ∷ r) e = omega arith

    unquoted : IsQuotedNil (b ∷ r) → ⊥
    unquoted q = let e : true ≡ false = ap (λ x. nat_eq x 39) (sym q.quote) ∙ quote in cc

    no_more : (n : ℕ) → ((m : ℕ) → n < m → (m ≡ 1) × (is_single b ≡ true) → ⊥) → ((m : ℕ) → n < m → (m ≡ 2) × (is_pair (b ∷ r) ≡ true) → ⊥) → IsLongest (b ∷ r) n
    no_more n f g k m h l s = by (at_sign b r m (omega (arith, h)) l letter digit quote k s)
      where
        by : ((m ≡ 1) × (is_single b ≡ true)) ⊎ ((m ≡ 2) × (is_pair (b ∷ r) ≡ true)) → ⊥
        by (inl x) = f m h x
        by (inr x) = g m h x

pub first_token : (b : ℕ) (r : List ℕ) → IsFirst (b ∷ r) (scan (b ∷ r))
unfolding scan
first_token b r =
    let C : Scanned → Type 0 = IsFirst (b ∷ r) in
    pick C (is_ascii_alphabetic b) _ _ (λ h. first_name b r h)
    (λ letter. pick C (is_ascii_digit b) _ _ (λ h. first_number b r h)
    (λ digit. pick C (nat_eq b 39) _ _ (λ h. let e : 39 ≡ b = grind (arith, nat_tests) in subst (λ x. IsFirst (x ∷ r) (scan_symbol (x ∷ r))) e (first_symbol r)) (λ quote. first_sign b r letter digit quote)))
