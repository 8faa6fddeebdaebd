-- A cut before or behind a token, or behind a gap, splits no character.
use Rattle.std.proofs.Common.{◌≡◌, ℕ, zero, suc, ◌+◌, ◌-◌, ◌<◌, ◌≤◌, Bool, true, false, cond, List, [], ◌∷◌, length, get_or, take, drop, IsUtf8, refl, sym, ap, ◌∙◌, subst, arith, nat_lt, nat_eq, ◌⊎◌, inl, inr, ⊎_elim, length-append, length-drop}
use Rattle.std.specs.Prelude.{◌||◌, ◌&&◌}
use Rattle.std.specs.Str.{IsCharBoundary}
use Rattle.std.specs.List.{prefix_len}
use Rattle.std.specs.Char.{is_ascii_digit, is_ascii_alphabetic}
use Rattle.std.specs.Prelude.{codes}
use Rattle.std.specs.Str.{bytes_eq}
use Rattle.std.specs.Str.Pattern.{StartsWithChar}
use Rattle.std.proofs.iter.FirstChar.{at_start, beside_ascii, before_text, in_one, in_two, in_three, in_four}
use Rattle.std.proofs.lemmas.List.Sums.{prefix_len_passes, prefix_len-le-length}
use Rattle.std.proofs.lemmas.Bool.Decides.{nat_tests}
use Rattle.syntax_grammar.specs.declared.scan.Class.{Class}
use Rattle.syntax_grammar.specs.declared.scan.Class.TheVariants as class
use Rattle.syntax_grammar.specs.declared.token_kind.TokenKind.{TokenKind}
use Rattle.syntax_grammar.specs.declared.token_kind.TokenKind.TheVariants as kind
use Rattle.syntax_grammar.specs.Scan.{Scanned, begins_two, is_single, is_in, gap, scan, scan_name, scan_bad, char_length, scan_symbol, scan_sign}
use Rattle.syntax_grammar.specs.Tokens.{Cuts, with_reserved}

-- behind an ASCII byte
pub behind_ascii : (bs : List ℕ) (n : ℕ) → IsUtf8 bs → 0 < n → n ≤ length bs → get_or bs (n - 1) 0 < 128 → IsCharBoundary bs n
behind_ascii bs n u some le h =
    let e : n - 1 + 1 ≡ n = omega arith in
    subst (IsCharBoundary bs) e (beside_ascii bs (n - 1) u (omega arith) h).1

-- a choice, by what its test says
pub pick : {A : Type 0} (P : A → Type 0) (t : Bool) (m n : A) → (t ≡ true → P m) → (t ≡ false → P n) → P (cond t m n)
pick P true m n f g = f refl
pick P false m n f g = g refl

-- where a gap ends: at the end or behind an ASCII byte
abbrev Ends : List ℕ → ℕ → Type 0
Ends bs n = (n ≤ length bs) × ((n ≡ length bs) ⊎ ((0 < n) × (get_or bs (n - 1) 0 < 128)))

at_later : (b : ℕ) (bs : List ℕ) (n : ℕ) → 0 < n → get_or bs (n - 1) 0 < 128 → get_or (b ∷ bs) (1 + n - 1) 0 < 128
at_later b bs zero s h = absurd (omega arith)
at_later b bs (suc m) s h =
    let e : 1 + suc m - 1 ≡ suc m = omega arith in
    let f : suc m - 1 ≡ m = omega arith in
    subst (λ i. get_or (b ∷ bs) i 0 < 128) (sym e) (subst (λ i. get_or bs i 0 < 128) f h)

later : (b : ℕ) (bs : List ℕ) (n : ℕ) → Ends bs n → Ends (b ∷ bs) (1 + n)
later b bs n e = (omega (arith, e.0), ⊎_elim (λ h. inl (omega (arith, h))) (λ h. inr (omega arith, at_later b bs n h.0 h.1)) e.1)

started : (b : ℕ) (bs : List ℕ) (n : ℕ) → b < 128 → ((n ≡ 0) ⊎ Ends bs n) → Ends (b ∷ bs) (1 + n)
started b bs n h e =
    ⊎_elim (λ z. let k : 1 + n - 1 ≡ 0 = omega (arith, z) in (omega (arith, z), inr (omega arith, subst (λ i. get_or (b ∷ bs) i 0 < 128) (sym k) h))) (λ f. later b bs n f) e

ends : (bs : List ℕ) → ((gap false bs ≡ 0) ⊎ Ends bs (gap false bs)) × Ends bs (gap true bs)
ends [] = (inl refl, (omega arith, inl refl))
ends (b ∷ bs) =
    let r = ends bs in
    let P : ℕ → Type 0 = λ n. (n ≡ 0) ⊎ Ends (b ∷ bs) n in (
      pick P (nat_eq b 10) _ _ (λ h. inr (started b bs _ (grind (arith, nat_tests)) r.0))
          (λ _. pick P (nat_eq b 35) _ _ (λ h. inr (later b bs _ r.1))
          (λ _. pick P (nat_eq b 32 || (nat_eq b 9 || nat_eq b 13)) _ _ (λ h. inr (started b bs _ (grind (arith, nat_tests)) r.0)) (λ _. inl refl))),
      pick (Ends (b ∷ bs)) (nat_eq b 10) _ _ (λ h. started b bs _ (grind (arith, nat_tests)) r.0)
          (λ _. pick (Ends (b ∷ bs)) (nat_eq b 35) _ _ (λ h. later b bs _ r.1)
          (λ _. pick (Ends (b ∷ bs)) (nat_eq b 32 || (nat_eq b 9 || nat_eq b 13)) _ _ (λ h. later b bs _ r.1) (λ _. later b bs _ r.1))),
    )

pub gap_cut : (bs : List ℕ) → IsUtf8 bs → IsCharBoundary bs (gap false bs)
gap_cut bs u =
    ⊎_elim (λ z. subst (IsCharBoundary bs) (sym z) (at_start bs u)) (λ e. ⊎_elim (λ l. (e.0, λ lt h. absurd (omega (arith, lt, l)))) (λ h. behind_ascii bs _ u h.0 e.0 h.1) e.1) (ends bs).0

is_ascii : (c : Class) (b : ℕ) → is_in c b ≡ true → b < 128
is_ascii class.Name b h = grind (arith, nat_tests)
is_ascii class.Symbol b h = grind (arith, nat_tests)
is_ascii class.Digit b h = grind (arith, nat_tests)

by_char : (bs : List ℕ) (c w : ℕ) → StartsWithChar bs c w → IsCharBoundary bs w
by_char bs c w b = before_text bs w b.3 b.4

char_cut : (bs : List ℕ) → IsUtf8 bs → 0 < length bs → IsCharBoundary bs (char_length (get_or bs 0 0))
char_cut bs u some =
    let b = get_or bs 0 0 in
    let C = IsCharBoundary bs in
    pick C (nat_lt b 128) _ _ (λ h. let k = in_one bs u some (grind (arith, nat_tests)) in by_char bs _ 1 k.1)
    (λ g. pick C (nat_lt b 224) _ _ (λ h. let k = in_two bs u some (grind (arith, nat_tests)) (grind (arith, nat_tests)) in by_char bs _ 2 k.1)
    (λ h. pick C (nat_lt b 240) _ _ (λ i. let k = in_three bs u some (grind (arith, nat_tests)) (grind (arith, nat_tests)) in by_char bs _ 3 k.1)
    (λ i. let k = in_four bs u some (grind (arith, nat_tests)) in by_char bs _ 4 k.1)))

prefix_some : (p : ℕ → Bool) (x : ℕ) (xs : List ℕ) → p x ≡ true → 0 < prefix_len p (x ∷ xs)
prefix_some p x xs h = rw h (omega arith)

run_cut : (c : Class) (bs : List ℕ) → IsUtf8 bs → 0 < prefix_len (is_in c) bs → IsCharBoundary bs (prefix_len (is_in c) bs)
run_cut c bs u some =
    let n = prefix_len (is_in c) bs in
    behind_ascii bs n u some (prefix_len-le-length (is_in c) bs) (is_ascii c _ (prefix_len_passes (is_in c) bs (n - 1) 0 (omega arith)))

-- behind a quote and a run
quoted_cut : (b : ℕ) (r : List ℕ) → IsUtf8 (b ∷ r) → 0 < prefix_len (is_in class.Symbol) r → IsCharBoundary (b ∷ r) (prefix_len (is_in class.Symbol) r + 1)
quoted_cut b r u some =
    let n = prefix_len (is_in class.Symbol) r in
    let e : 1 + n - 1 ≡ n + 1 - 1 = omega arith in
    behind_ascii (b ∷ r) (n + 1) u (omega arith) (omega (arith, prefix_len-le-length (is_in class.Symbol) r))
    (subst (λ i. get_or (b ∷ r) i 0 < 128) e (at_later b r n some (is_ascii class.Symbol _ (prefix_len_passes (is_in class.Symbol) r (n - 1) 0 (omega arith)))))

symbol_run : (r : List ℕ) → is_ascii_alphabetic (get_or r 0 0) ≡ true → 0 < prefix_len (is_in class.Symbol) r
symbol_run [] h = absurd (let f : false ≡ true = h in cc)
symbol_run (x ∷ xs) h = prefix_some (is_in class.Symbol) x xs (grind (arith, nat_tests))

abbrev Cut : List ℕ → Scanned → Type 0
Cut bs k = IsCharBoundary bs k.1

bad_cut : (bs : List ℕ) → IsUtf8 bs → 0 < length bs → Cut bs (scan_bad bs)
unfolding scan_bad
bad_cut bs u some = char_cut bs u some

word_cut : (b : ℕ) (r : List ℕ) → IsUtf8 (b ∷ r) → is_in class.Name b ≡ true → Cut (b ∷ r) (scan_name (b ∷ r))
unfolding scan_name
word_cut b r u h =
    let k = run_cut class.Name (b ∷ r) u (prefix_some (is_in class.Name) b r h) in
    pick (Cut (b ∷ r)) (nat_lt 64 (prefix_len (is_in class.Name) (b ∷ r))) _ _ (λ _. k) (λ _. k)

symbol_cut : (b : ℕ) (r : List ℕ) → IsUtf8 (b ∷ r) → Cut (b ∷ r) (scan_symbol (b ∷ r))
unfolding scan_symbol
symbol_cut b r u =
    let n = prefix_len (is_in class.Symbol) r in
    let bs = b ∷ r in
    pick (Cut (b ∷ r)) (is_ascii_alphabetic (get_or r 0 0)) _ _
    (λ h. let k = quoted_cut b r u (symbol_run r h) in pick (Cut (b ∷ r)) (nat_lt 64 n) _ _ (λ _. k) (λ _. pick (Cut (b ∷ r)) (bytes_eq (take n r) (codes "nil")) _ _ (λ _. bad_cut (b ∷ r) u (omega arith)) (λ _. k)))
    (λ _. bad_cut (b ∷ r) u (omega arith))

two_cut : (b : ℕ) (r : List ℕ) → IsUtf8 (b ∷ r) → (begins_two b && nat_eq (get_or r 0 0) 61) ≡ true → IsCharBoundary (b ∷ r) 2
two_cut b [] u h = absurd (grind (arith, nat_tests))
two_cut b (x ∷ xs) u h = behind_ascii (b ∷ (x ∷ xs)) 2 u (omega arith) (omega arith) (grind (arith, nat_tests))

sign_cut : (b : ℕ) (r : List ℕ) → IsUtf8 (b ∷ r) → Cut (b ∷ r) (scan_sign (b ∷ r))
unfolding scan_sign
sign_cut b r u =
    pick (Cut (b ∷ r)) (begins_two b && nat_eq (get_or r 0 0) 61) _ _ (λ h. two_cut b r u h)
    (λ _. pick (Cut (b ∷ r)) (is_single b) _ _ (λ h. behind_ascii (b ∷ r) 1 u (omega arith) (omega arith) (grind (arith, nat_tests))) (λ _. bad_cut (b ∷ r) u (omega arith)))

pub scan_cut : (bs : List ℕ) → IsUtf8 bs → Cut bs (scan bs)
unfolding scan
scan_cut [] u = (omega arith, λ lt h. absurd (omega (arith, lt)))
scan_cut (b ∷ r) u =
    let C : Scanned → Type 0 = Cut (b ∷ r) in
    pick C (is_ascii_alphabetic b) _ _ (λ h. word_cut b r u (grind (arith, nat_tests)))
    (λ _. pick C (is_ascii_digit b) _ _ (λ h. run_cut class.Digit (b ∷ r) u (prefix_some (is_in class.Digit) b r h))
    (λ _. pick C (nat_eq b 39) _ _ (λ _. symbol_cut b r u) (λ _. sign_cut b r u)))

-- a token of a text that isn't empty takes a byte
abbrev Moves : Scanned → Type 0
Moves k = 0 < k.1

char_moves : (b : ℕ) → 0 < char_length b
char_moves b =
    let P : ℕ → Type 0 = λ n. 0 < n in
    pick P (nat_lt b 128) _ _ (λ _. omega arith) (λ _. pick P (nat_lt b 224) _ _ (λ _. omega arith) (λ _. pick P (nat_lt b 240) _ _ (λ _. omega arith) (λ _. omega arith)))

bad_moves : (bs : List ℕ) → Moves (scan_bad bs)
unfolding scan_bad
bad_moves bs = char_moves (get_or bs 0 0)

word_moves : (b : ℕ) (r : List ℕ) → is_in class.Name b ≡ true → Moves (scan_name (b ∷ r))
unfolding scan_name
word_moves b r h =
    let k = prefix_some (is_in class.Name) b r h in
    pick Moves (nat_lt 64 (prefix_len (is_in class.Name) (b ∷ r))) _ _ (λ _. k) (λ _. k)

symbol_moves : (b : ℕ) (r : List ℕ) → Moves (scan_symbol (b ∷ r))
unfolding scan_symbol
symbol_moves b r =
    let n = prefix_len (is_in class.Symbol) r in
    pick Moves (is_ascii_alphabetic (get_or r 0 0)) _ _
    (λ h. pick Moves (nat_lt 64 n) _ _ (λ _. omega arith) (λ _. pick Moves (bytes_eq (take n r) (codes "nil")) _ _ (λ _. bad_moves (b ∷ r)) (λ _. omega arith)))
    (λ _. bad_moves (b ∷ r))

sign_moves : (b : ℕ) (r : List ℕ) → Moves (scan_sign (b ∷ r))
unfolding scan_sign
sign_moves b r =
    pick Moves (begins_two b && nat_eq (get_or r 0 0) 61) _ _ (λ _. omega arith) (λ _. pick Moves (is_single b) _ _ (λ _. omega arith) (λ _. bad_moves (b ∷ r)))

pub scan_moves : (b : ℕ) (r : List ℕ) → 0 < (scan (b ∷ r)).1
unfolding scan
scan_moves b r =
    pick Moves (is_ascii_alphabetic b) _ _ (λ h. word_moves b r (grind (arith, nat_tests)))
    (λ _. pick Moves (is_ascii_digit b) _ _ (λ h. prefix_some (is_in class.Digit) b r h)
    (λ _. pick Moves (nat_eq b 39) _ _ (λ _. symbol_moves b r) (λ _. sign_moves b r)))

scan_empty : (scan []).0 ≡ kind.End
unfolding scan
scan_empty = refl

-- what was cut is no End and so has a byte
pub cut_moves : (old : List ℕ) (k : TokenKind) (text new : List ℕ) → Cuts old k text new → (k ≡ kind.End → ⊥) → length new < length old
cut_moves old k text new c other = by (drop (gap false old) old) refl
  where
    by : (front : List ℕ) → drop (gap false old) old ≡ front → length new < length old
    by [] e = absurd (other (c.kind_is ∙ ap (λ b. with_reserved (scan b).0 text) e ∙ ap (λ s. with_reserved s text) scan_empty))
    by (b ∷ r) e =
        let some = scan_moves b r in
        let long : length text ≡ (scan (b ∷ r)).1 = c.length_is ∙ ap (λ l. (scan l).1) e in
        omega (arith, ap length c.whole, length-append text new, length-drop (gap false old) old, some, long)
