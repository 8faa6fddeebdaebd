-- What a text reads as: the sorts of its words, and the names behind them.
use Rattle.std.proofs.Common.{◌≡◌, ℕ, zero, suc, ◌+◌, ◌-◌, false, List, [], ◌∷◌, ◌++◌, map, length, take, refl, sym, ap, ◌∙◌, arith}
use Rattle.std.proofs.Math.Seq.{take_at, drop_at}
use Rattle.syntax_grammar.specs.declared.token_kind.TokenKind.{TokenKind}
use Rattle.syntax_grammar.specs.declared.word.Sort.{Sort}
use Rattle.syntax_grammar.specs.declared.word.Word.{Word}
use Rattle.syntax_grammar.specs.Scan.{Scanned, gap, scan}
use Rattle.syntax_grammar.specs.Tokens.{Piece, with_reserved, first_piece, behind_gap, pieces}
use Rattle.syntax_grammar.specs.Words.{names_by, sort_by, names_after, word_after, words, names_behind}
use Rattle.syntax_grammar.proofs.Pieces.{pieces_skip, gap_skipped}

abbrev pub Reading : Type 0
Reading = List Sort × List (List ℕ)

-- with these words before
abbrev pub behind : (List Sort → List Sort) → Reading → Reading
behind before r = (before r.0, r.1)

abbrev of_pieces : List (List ℕ) → List Piece → Reading
of_pieces names ps = (map (λ (w : Word). w.sort) (words names ps), names_behind names ps)

unfoldable pub reading : List (List ℕ) → List ℕ → Reading
reading names text = of_pieces names (pieces 0 0 text)

-- ---- places make no difference

of_more : (names : List (List ℕ)) (k : TokenKind) (text : List ℕ) (at : ℕ) (ps : List Piece) → of_pieces names (record { kind = k; text = text; start = at } ∷ ps) ≡ behind (λ ss. sort_by k text (names_by k text names) ∷ ss) (of_pieces (names_by k text names) ps)
unfolding word_after names_after
of_more names k text at ps = refl

front_placed : (names : List (List ℕ)) (b : ℕ) (bs : List ℕ) (at to : ℕ) → ((ns : List (List ℕ)) (n : ℕ) → of_pieces ns (pieces n (at + 1) bs) ≡ of_pieces ns (pieces n (to + 1) bs)) → (g : ℕ)
    → of_pieces names (behind_gap g at (b ∷ bs) (λ n. pieces n (at + 1) bs)) ≡ of_pieces names (behind_gap g to (b ∷ bs) (λ n. pieces n (to + 1) bs))
front_placed names b bs at to again (suc g) = again names g
front_placed names b bs at to again zero =
    let text = take (scan (b ∷ bs)).1 (b ∷ bs) in
    let k = with_reserved (scan (b ∷ bs)).0 text in
    let n = (scan (b ∷ bs)).1 - 1 in
    of_more names k text at (pieces n (at + 1) bs) ∙ ap (behind (λ ss. sort_by k text (names_by k text names) ∷ ss)) (again (names_by k text names) n) ∙ sym (of_more names k text to (pieces n (to + 1) bs))

placed : (names : List (List ℕ)) (skipped at to : ℕ) (bs : List ℕ) → of_pieces names (pieces skipped at bs) ≡ of_pieces names (pieces skipped to bs)
placed names skipped at to [] = refl
placed names zero at to (b ∷ bs) = front_placed names b bs at to (λ ns n. placed ns n (at + 1) (to + 1) bs) (gap false (b ∷ bs))
placed names (suc n) at to (b ∷ bs) = placed names n (at + 1) (to + 1) bs

-- ---- blanks are passed over

pieces_blank : (b : ℕ) (rest : List ℕ) (at : ℕ) → gap false (b ∷ rest) ≡ 1 + gap false rest → pieces 0 at (b ∷ rest) ≡ pieces 0 (at + 1) rest
pieces_blank b rest at is =
    let e : gap false (b ∷ rest) ≡ suc (gap false rest) = is ∙ omega arith in
    ap (λ k. behind_gap k at (b ∷ rest) (λ n. pieces n (at + 1) rest)) e ∙ sym (gap_skipped rest (at + 1))

pub blank : (names : List (List ℕ)) (rest : List ℕ) → reading names (32 ∷ rest) ≡ reading names rest
unfolding reading
blank names rest = ap (of_pieces names) (pieces_blank 32 rest 0 refl) ∙ placed names 0 1 0 rest

pub line_feed : (names : List (List ℕ)) (rest : List ℕ) → reading names (10 ∷ rest) ≡ reading names rest
unfolding reading
line_feed names rest = ap (of_pieces names) (pieces_blank 10 rest 0 refl) ∙ placed names 0 1 0 rest

-- ---- a token, and what follows it

pub token : (names : List (List ℕ)) (p : ℕ) (ps rest : List ℕ) (k : TokenKind) (s : Sort) → gap false ((p ∷ ps) ++ rest) ≡ 0 → scan ((p ∷ ps) ++ rest) ≡ (k, length (p ∷ ps)) → names_by (with_reserved k (p ∷ ps)) (p ∷ ps) names ≡ names
    → sort_by (with_reserved k (p ∷ ps)) (p ∷ ps) names ≡ s → reading names ((p ∷ ps) ++ rest) ≡ behind (λ ss. s ∷ ss) (reading names rest)
unfolding reading
token names p ps rest k s g c same is =
    let whole = (p ∷ ps) ++ rest in
    let text : take (scan whole).1 whole ≡ p ∷ ps = ap (λ (x : Scanned). take x.1 whole) c ∙ take_at (p ∷ ps) rest (length (p ∷ ps)) refl in
    let first : first_piece 0 whole ≡ record { kind = with_reserved k (p ∷ ps); text = p ∷ ps; start = 0 } = (λ i. record { kind = with_reserved (c i).0 (text i); text = text i; start = 0 }) in
    let n : (scan whole).1 - 1 ≡ length ps = omega (arith, ap (λ (x : Scanned). x.1) c) in
    let more : pieces ((scan whole).1 - 1) 1 (ps ++ rest) ≡ pieces 0 (1 + length ps) rest = ap (λ m. pieces m 1 (ps ++ rest)) n ∙ pieces_skip (length ps) 1 (ps ++ rest) ∙ (λ i. pieces 0 (1 + length ps) (drop_at ps rest (length ps) refl i)) in
    let cut : pieces 0 0 whole ≡ record { kind = with_reserved k (p ∷ ps); text = p ∷ ps; start = 0 } ∷ pieces 0 (1 + length ps) rest = ap (λ m. behind_gap m 0 whole (λ j. pieces j 1 (ps ++ rest))) g ∙ (λ i. first i ∷ more i) in
    ap (of_pieces names) cut ∙ of_more names (with_reserved k (p ∷ ps)) (p ∷ ps) 0 (pieces 0 (1 + length ps) rest)
    ∙ ap (λ ns. behind (λ ss. sort_by (with_reserved k (p ∷ ps)) (p ∷ ps) ns ∷ ss) (of_pieces ns (pieces 0 (1 + length ps) rest))) same
    ∙ ap (λ t. behind (λ ss. t ∷ ss) (of_pieces names (pieces 0 (1 + length ps) rest))) is ∙ ap (behind (λ ss. s ∷ ss)) (placed names 0 (1 + length ps) 0 rest)

pub nothing : (names : List (List ℕ)) → reading names [] ≡ ([], names)
unfolding reading
nothing names = refl
