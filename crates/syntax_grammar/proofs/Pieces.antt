-- The tokens of a text, one by one.
use Rattle.std.proofs.Common.{◌≡◌, ℕ, zero, suc, ◌+◌, ◌-◌, ◌<◌, ◌≤◌, Bool, true, false, List, [], ◌∷◌, ◌++◌, length, get_or, take, drop, refl, sym, ap, ◌∙◌, subst, arith, nat_lt, nat_eq, length-append, length-drop}
use Rattle.std.specs.Prelude.{◌||◌, ◌&&◌, codes, is_some}
use Rattle.std.specs.Char.{is_ascii_digit, is_ascii_alphabetic}
use Rattle.std.specs.List.{prefix_len}
use Rattle.std.specs.Str.{bytes_eq}
use Rattle.std.proofs.Math.Seq.{take_at, drop_at}
use Rattle.syntax_grammar.specs.declared.scan.Class.TheVariants as class
use Rattle.syntax_grammar.specs.declared.token_kind.TokenKind.{TokenKind}
use Rattle.syntax_grammar.specs.declared.token_kind.TokenKind.TheVariants as kind
use Rattle.syntax_grammar.specs.Keyword.{keyword_of}
use Rattle.syntax_grammar.specs.Scan.{Scanned, begins_two, is_single, is_in, gap, scan, scan_name, scan_bad, scan_symbol, scan_sign}
use Rattle.syntax_grammar.specs.Tokens.{Cuts, with_reserved, first_piece, behind_gap, pieces}
use Rattle.syntax_grammar.proofs.Cut.{pick, scan_moves}

-- ---- a gap is followed by no gap

later_gap : (b : ℕ) (bs : List ℕ) (n : ℕ) → gap false (drop n bs) ≡ 0 → gap false (drop (1 + n) (b ∷ bs)) ≡ 0
later_gap b bs n h = let e : 1 + n ≡ suc n = omega arith in subst (λ i. gap false (drop i (b ∷ bs)) ≡ 0) (sym e) h

pub gap_again : (commented : Bool) (bs : List ℕ) → gap false (drop (gap commented bs) bs) ≡ 0
gap_again commented [] = refl
gap_again commented (b ∷ bs) =
    let P : ℕ → Type 0 = λ n. gap false (drop n (b ∷ bs)) ≡ 0 in
    pick P (nat_eq b 10) _ _ (λ _. later_gap b bs _ (gap_again false bs))
    (λ line. pick P (nat_eq b 35) _ _ (λ _. later_gap b bs _ (gap_again true bs))
    (λ hash. pick P (nat_eq b 32 || (nat_eq b 9 || nat_eq b 13)) _ _ (λ _. later_gap b bs _ (gap_again commented bs))
    (λ blank. pick P commented _ _ (λ _. later_gap b bs _ (gap_again true bs)) (λ _. rw (line, hash, blank) refl))))

-- ---- the end is that of the text alone

abbrev is_end : TokenKind → Bool
is_end kind.End = true
is_end k = false

abbrev GoesOn : Scanned → Type 0
GoesOn s = is_end s.0 ≡ false

bad_goes_on : (bs : List ℕ) → GoesOn (scan_bad bs)
unfolding scan_bad
bad_goes_on bs = refl

name_goes_on : (bs : List ℕ) → GoesOn (scan_name bs)
unfolding scan_name
name_goes_on bs = pick GoesOn (nat_lt 64 (prefix_len (is_in class.Name) bs)) _ _ (λ _. refl) (λ _. refl)

symbol_goes_on : (bs : List ℕ) → GoesOn (scan_symbol bs)
unfolding scan_symbol
symbol_goes_on bs =
    let n = prefix_len (is_in class.Symbol) (drop 1 bs) in
    pick GoesOn (is_ascii_alphabetic (get_or bs 1 0)) _ _
    (λ _. pick GoesOn (nat_lt 64 n) _ _ (λ _. refl) (λ _. pick GoesOn (bytes_eq (take n (drop 1 bs)) (codes "nil")) _ _ (λ _. bad_goes_on bs) (λ _. refl)))
    (λ _. bad_goes_on bs)

sign_goes_on : (bs : List ℕ) → GoesOn (scan_sign bs)
unfolding scan_sign
sign_goes_on bs =
    pick GoesOn (begins_two (get_or bs 0 0) && nat_eq (get_or bs 1 0) 61) _ _ (λ _. refl) (λ _. pick GoesOn (is_single (get_or bs 0 0)) _ _ (λ _. refl) (λ _. bad_goes_on bs))

scan_goes_on : (b : ℕ) (r : List ℕ) → GoesOn (scan (b ∷ r))
unfolding scan
scan_goes_on b r =
    pick GoesOn (is_ascii_alphabetic b) _ _ (λ _. name_goes_on (b ∷ r))
    (λ _. pick GoesOn (is_ascii_digit b) _ _ (λ _. refl)
    (λ _. pick GoesOn (nat_eq b 39) _ _ (λ _. symbol_goes_on (b ∷ r)) (λ _. sign_goes_on (b ∷ r))))

reserved_goes_on : (k : TokenKind) (text : List ℕ) → is_end k ≡ false → is_end (with_reserved k text) ≡ false
reserved_goes_on kind.Name text h = pick (λ k. is_end k ≡ false) (is_some (keyword_of text)) kind.Key kind.Name (λ _. refl) (λ _. refl)
reserved_goes_on kind.Key text h = refl
reserved_goes_on kind.Symbol text h = refl
reserved_goes_on kind.Number text h = refl
reserved_goes_on kind.Sign text h = refl
reserved_goes_on kind.Long text h = refl
reserved_goes_on kind.Bad text h = refl
reserved_goes_on kind.End text h = h

-- what isn't empty begins with a token that isn't the end
pub full_goes_on : (b : ℕ) (r text : List ℕ) → with_reserved (scan (b ∷ r)).0 text ≡ kind.End → ⊥
full_goes_on b r text h =
    let f : true ≡ false = sym (ap is_end h) ∙ reserved_goes_on (scan (b ∷ r)).0 text (scan_goes_on b r) in cc

-- ---- the first token, and those that follow it

pub pieces_skip : (n at : ℕ) (bs : List ℕ) → pieces n at bs ≡ pieces 0 (at + n) (drop n bs)
pieces_skip zero at [] = refl
pieces_skip (suc n) at [] = refl
pieces_skip zero at (b ∷ bs) = let e : at ≡ at + 0 = omega arith in ap (λ k. pieces 0 k (b ∷ bs)) e
pieces_skip (suc n) at (b ∷ bs) =
    let e : at + 1 + n ≡ at + suc n = omega arith in
    pieces_skip n (at + 1) bs ∙ ap (λ k. pieces 0 k (drop n bs)) e

-- the gap is passed over
pub gap_skipped : (bs : List ℕ) (at : ℕ) → pieces 0 at bs ≡ pieces (gap false bs) at bs
gap_skipped [] at = refl
gap_skipped (b ∷ bs) at = by (gap false (b ∷ bs)) refl
  where
    by : (g : ℕ) → gap false (b ∷ bs) ≡ g → behind_gap (gap false (b ∷ bs)) at (b ∷ bs) (λ n. pieces n (at + 1) bs) ≡ pieces (gap false (b ∷ bs)) at (b ∷ bs)
    by zero e = sym (ap (λ k. pieces k at (b ∷ bs)) e)
    by (suc g) e = ap (λ k. behind_gap k at (b ∷ bs) (λ n. pieces n (at + 1) bs)) e ∙ sym (ap (λ k. pieces k at (b ∷ bs)) e)

pub behind : (bs : List ℕ) (at : ℕ) → pieces 0 at bs ≡ pieces 0 (at + gap false bs) (drop (gap false bs) bs)
behind bs at = gap_skipped bs at ∙ pieces_skip (gap false bs) at bs

-- no gap stands before the first one
front_piece : (b : ℕ) (r text new : List ℕ) (at : ℕ) → gap false (b ∷ r) ≡ 0 → b ∷ r ≡ text ++ new → length text ≡ (scan (b ∷ r)).1
    → pieces 0 at (b ∷ r) ≡ record { kind = with_reserved (scan (b ∷ r)).0 text; text = text; start = at } ∷ pieces 0 (at + length text) new
front_piece b r text new at g whole long =
    let n = (scan (b ∷ r)).1 in
    let some : 0 < n = scan_moves b r in
    let e : suc (n - 1) ≡ length text = omega (arith, some, long) in
    let cut : take n (b ∷ r) ≡ text = ap (take n) whole ∙ take_at text new n long in
    let left : drop (n - 1) r ≡ new = ap (λ i. drop i (b ∷ r)) e ∙ ap (drop (length text)) whole ∙ drop_at text new (length text) refl in
    let first : first_piece at (b ∷ r) ≡ record { kind = with_reserved (scan (b ∷ r)).0 text; text = text; start = at } =
    ap (λ t. record { kind = with_reserved (scan (b ∷ r)).0 t; text = t; start = at }) cut in
    let place : at + 1 + (n - 1) ≡ at + length text = omega (arith, e) in
    let more : pieces (n - 1) (at + 1) r ≡ pieces 0 (at + length text) new =
    pieces_skip (n - 1) (at + 1) r ∙ (λ i. pieces 0 (place i) (left i)) in
    ap (λ m. behind_gap m at (b ∷ r) (λ j. pieces j (at + 1) r)) g ∙ (λ i. first i ∷ more i)

scan_empty : scan [] ≡ (kind.End, 0)
unfolding scan
scan_empty = refl

-- a token that isn't the end, and those behind it
pub pieces_next : (at : ℕ) (old : List ℕ) (k : TokenKind) (text new : List ℕ) → Cuts old k text new → (k ≡ kind.End → ⊥)
    → pieces 0 at old ≡ record { kind = k; text = text; start = at + gap false old } ∷ pieces 0 (at + gap false old + length text) new
pieces_next at old k text new c other = behind old at ∙ by (drop (gap false old) old) refl
  where
    by : (front : List ℕ) → drop (gap false old) old ≡ front
        → pieces 0 (at + gap false old) (drop (gap false old) old) ≡ record { kind = k; text = text; start = at + gap false old } ∷ pieces 0 (at + gap false old + length text) new
    by [] e = absurd (other (c.kind_is ∙ ap (λ b. with_reserved (scan b).0 text) e ∙ ap (λ (s : Scanned). with_reserved s.0 text) scan_empty))
    by (b ∷ r) e =
        let none : gap false (b ∷ r) ≡ 0 = subst (λ front. gap false front ≡ 0) e (gap_again false old) in
        let long : length text ≡ (scan (b ∷ r)).1 = c.length_is ∙ ap (λ front. (scan front).1) e in
        let same : with_reserved (scan (b ∷ r)).0 text ≡ k = sym (c.kind_is ∙ ap (λ front. with_reserved (scan front).0 text) e) in
        ap (pieces 0 (at + gap false old)) e
        ∙ front_piece b r text new (at + gap false old) none (sym e ∙ c.whole) long
        ∙ ap (λ kind. record { kind = kind; text = text; start = at + gap false old } ∷ pieces 0 (at + gap false old + length text) new) same

-- the end, behind which nothing is left
pub pieces_end : (at : ℕ) (old text new : List ℕ) → Cuts old kind.End text new → (pieces 0 at old ≡ []) × (text ++ new ≡ [])
pieces_end at old text new c = by (drop (gap false old) old) refl
  where
    by : (front : List ℕ) → drop (gap false old) old ≡ front → (pieces 0 at old ≡ []) × (text ++ new ≡ [])
    by [] e = (behind old at ∙ ap (pieces 0 (at + gap false old)) e, sym c.whole ∙ e)
    by (b ∷ r) e = absurd (full_goes_on b r text (sym (c.kind_is ∙ ap (λ front. with_reserved (scan front).0 text) e)))

pub gap_le : (commented : Bool) (bs : List ℕ) → gap commented bs ≤ length bs
gap_le commented [] = omega arith
gap_le commented (b ∷ bs) =
    let P : ℕ → Type 0 = λ n. n ≤ suc (length bs) in
    pick P (nat_eq b 10) _ _ (λ _. omega (arith, gap_le false bs))
    (λ _. pick P (nat_eq b 35) _ _ (λ _. omega (arith, gap_le true bs))
    (λ _. pick P (nat_eq b 32 || (nat_eq b 9 || nat_eq b 13)) _ _ (λ _. omega (arith, gap_le commented bs))
    (λ _. pick P commented _ _ (λ _. omega (arith, gap_le true bs)) (λ _. omega arith))))

-- no byte is lost
pub cut_length : (old : List ℕ) (k : TokenKind) (text new : List ℕ) → Cuts old k text new → gap false old + length text + length new ≡ length old
cut_length old k text new c = omega (arith, gap_le false old, ap length c.whole, length-append text new, length-drop (gap false old) old)

-- each token takes a byte
pub pieces_few : (skipped at : ℕ) (bs : List ℕ) → length (pieces skipped at bs) ≤ length bs
pieces_few skipped at [] = omega arith
pieces_few zero at (b ∷ bs) = by (gap false (b ∷ bs)) (λ n. pieces_few n (at + 1) bs)
  where
    by : (g : ℕ) → ((n : ℕ) → length (pieces n (at + 1) bs) ≤ length bs) → length (behind_gap g at (b ∷ bs) (λ n. pieces n (at + 1) bs)) ≤ suc (length bs)
    by zero h = omega (arith, h ((scan (b ∷ bs)).1 - 1))
    by (suc g) h = omega (arith, h g)
pieces_few (suc n) at (b ∷ bs) = omega (arith, pieces_few n (at + 1) bs)
