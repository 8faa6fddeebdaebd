-- The tokens of a source, with what stands between them, are the source.
use Rattle.std.proofs.Common.{◌≡◌, ℕ, zero, suc, ◌+◌, ◌-◌, ◌<◌, ◌≤◌, false, List, [], ◌∷◌, ◌++◌, length, take, drop, refl, sym, ap, ◌∙◌, subst, arith, length-drop}
use Rattle.syntax_grammar.specs.declared.token.Token.{Token}
use Rattle.syntax_grammar.specs.declared.tokens.Tokens.{Tokens}
use Rattle.syntax_grammar.specs.Gap.{IsGap}
use Rattle.syntax_grammar.specs.Scan.{gap, scan}
use Rattle.syntax_grammar.specs.Spelled.{Spell, IsNext}
use Rattle.syntax_grammar.specs.Steps.{Gives}
use Rattle.syntax_grammar.specs.Tokens.{Cuts, first_piece, behind_gap, pieces}
use Rattle.syntax_grammar.proofs.Cut.{scan_moves}
use Rattle.syntax_grammar.proofs.GapFills.{gap_fills}
use Rattle.syntax_grammar.proofs.Pieces.{behind, gap_again, pieces_skip, pieces_end}
use Rattle.syntax_grammar.proofs.ReaderLemmas.{gave_next}

halves : (n : ℕ) (xs : List ℕ) → take n xs ++ drop n xs ≡ xs
halves zero xs = refl
halves (suc n) [] = refl
halves (suc n) (x ∷ xs) = ap (λ l. x ∷ l) (halves n xs)

-- a token and what follows it
cut_apart : (c : ℕ) (r : List ℕ) (n : ℕ) → 0 < n → take n (c ∷ r) ++ drop (n - 1) r ≡ c ∷ r
cut_apart c r zero h = absurd (omega (arith, h))
cut_apart c r (suc n) h = let e : suc n - 1 ≡ n = omega arith in ap (λ i. c ∷ (take n r ++ drop i r)) e ∙ ap (λ l. c ∷ l) (halves n r)

front_pieces : (at c : ℕ) (r : List ℕ) → gap false (c ∷ r) ≡ 0 → pieces 0 at (c ∷ r) ≡ first_piece at (c ∷ r) ∷ pieces 0 (at + 1 + ((scan (c ∷ r)).1 - 1)) (drop ((scan (c ∷ r)).1 - 1) r)
front_pieces at c r g =
    ap (λ m. behind_gap m at (c ∷ r) (λ j. pieces j (at + 1) r)) g
    ∙ ap (λ l. first_piece at (c ∷ r) ∷ l) (pieces_skip ((scan (c ∷ r)).1 - 1) (at + 1) r)

spelled : (n at : ℕ) (text : List ℕ) → length text ≤ n → Spell (pieces 0 at text) text
spelled n at [] h = gap_fills []
spelled zero at (b ∷ bs) h = absurd (omega (arith, h))
spelled (suc n) at (b ∷ bs) h = subst (λ ps. Spell ps (b ∷ bs)) (sym (behind (b ∷ bs) at)) (by (drop (gap false (b ∷ bs)) (b ∷ bs)) refl (λ at text few. spelled n at text few))
  where
    by : (front : List ℕ) → drop (gap false (b ∷ bs)) (b ∷ bs) ≡ front → ((at : ℕ) (text : List ℕ) → length text ≤ n → Spell (pieces 0 at text) text) → Spell (pieces 0 (at + gap false (b ∷ bs)) (drop (gap false (b ∷ bs)) (b ∷ bs))) (b ∷ bs)
    by [] e again = subst (λ f. Spell (pieces 0 (at + gap false (b ∷ bs)) f) (b ∷ bs)) (sym e) (subst (IsGap (b ∷ bs)) e (gap_fills (b ∷ bs)))
    by (c ∷ r) e again =
        let here = at + gap false (b ∷ bs) in
        let k = (scan (c ∷ r)).1 in
        let g : gap false (c ∷ r) ≡ 0 = subst (λ f. gap false f ≡ 0) e (gap_again false (b ∷ bs)) in
        let between : IsGap (b ∷ bs) (c ∷ r) = subst (IsGap (b ∷ bs)) e (gap_fills (b ∷ bs)) in
        let long : length (c ∷ r) ≤ suc n = omega (arith, ap length e, length-drop (gap false (b ∷ bs)) (b ∷ bs), h) in
        let rest = drop (k - 1) r in
        let few : length rest ≤ n = omega (arith, length-drop (k - 1) r, long) in
        subst (λ f. Spell (pieces 0 here f) (b ∷ bs)) (sym e)
        (subst (λ ps. Spell ps (b ∷ bs)) (sym (front_pieces here c r g))
        (rest, subst (IsGap (b ∷ bs)) (sym (cut_apart c r k (scan_moves c r))) between, again (here + 1 + (k - 1)) rest few))

pub source_spelled : (source : List ℕ) → Spell (pieces 0 0 source) source
source_spelled source = spelled (length source) 0 source (omega arith)

-- what a call gives is the first of the tokens to come
pub is_next : (old : Tokens) (token : Token) (new : Tokens) → Gives old token new → IsNext old token new
is_next old token new g = record {
  first = λ other. gave_next old token new (record { cut = g.cut; start = g.start; end = g.end; at = g.at }) other;
  none = λ is. (pieces_end old.at old.rest.now token.text.now new.rest.now (subst (λ k. Cuts old.rest.now k token.text.now new.rest.now) is g.cut)).0;
}
