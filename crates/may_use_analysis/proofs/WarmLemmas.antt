-- Lists at the heads of loops that are kept from an earlier walk.
use Rattle.std.proofs.Common.{◌≡◌, ℕ, zero, suc, ◌+◌, ◌-◌, ◌<◌, ◌≤◌, ◌==◌, true, List, [], ◌∷◌, length, drop, map, get_or, sym, ◌∙◌, subst, inl, inr, ◌↔◌, Contains, arith}
use Rattle.std.specs.Prelude.{slice_index_or}
use Rattle.std.proofs.lemmas.Bool.Decides.{nat_tests}
use Rattle.symbolic_ops.specs.declared.symbol.Symbol.{Symbol}
use Rattle.check_meaning.specs.declared.tree.CheckedStmt.{CheckedStmt}
use Rattle.check_meaning.specs.Code.{Code, Finish, Move, Ask, Fork, Loop, Quit, expr_term, cond_test, stmt_code, block_code, points, IsNumbered}
use Rattle.check_meaning.proofs.Codes.{checked_cases, code_store, code_perform, code_choose, code_repeat, code_answer}
use Rattle.may_use_analysis.specs.Trails.{Symbols}
use Rattle.may_use_analysis.specs.Flow.{Flow}
use Rattle.may_use_analysis.specs.Ordered.{Are}
use Rattle.may_use_analysis.specs.Warm.{HeadAt, AreWarm, SameOutside}
use Rattle.may_use_analysis.proofs.FlowLemmas.{Within, flow_within, turned_within}
use Rattle.may_use_analysis.proofs.Unique.{none_in_nil}

-- larger sets behind the code
pub warm_larger : (H : List (List Symbol)) (code : Code) (A B : Symbols) → Within A B → AreWarm H code A → AreWarm H code B
warm_larger H Finish A B h w = w
warm_larger H (Move x e rest) A B h w = warm_larger H rest A B h w
warm_larger H (Ask at p x c rest) A B h w = warm_larger H rest A B h w
warm_larger H (Fork at p q test a b rest) A B h w =
    let k = flow_within rest A B h in
    (warm_larger H a (Flow rest A) (Flow rest B) k w.0, warm_larger H b (Flow rest A) (Flow rest B) k w.1, warm_larger H rest A B h w.2)
warm_larger H (Loop at p n x body rest) A B h w =
    (λ s m. let r = w.0 s m in (r.0, turned_within x r.0 (Flow body) (flow_within body) (Flow rest A) (Flow rest B) (flow_within rest A B h) s r.1), w.1, warm_larger H rest A B h w.2)
warm_larger H (Quit es rest) A B h w = warm_larger H rest A B h w

-- nothing is kept
pub warm_none : (H : List (List Symbol)) (code : Code) (A : Symbols) → ((i : ℕ) → slice_index_or H i [] ≡ []) → AreWarm H code A
warm_none H Finish A none = tt
warm_none H (Move x e rest) A none = warm_none H rest A none
warm_none H (Ask at p x c rest) A none = warm_none H rest A none
warm_none H (Fork at p q test a b rest) A none =
    (warm_none H a (Flow rest A) none, warm_none H b (Flow rest A) none, warm_none H rest A none)
warm_none H (Loop at p n x body rest) A none =
    (λ s m. absurd (none_in_nil s (subst (λ (l : List Symbol). Contains l s) (none p) m)), warm_none H body (HeadAt H p) none, warm_none H rest A none)
warm_none H (Quit es rest) A none = warm_none H rest A none

-- what is kept of loops with the code's own numbers alone matters
abbrev pub SameInside : (H K : List (List Symbol)) → ℕ → ℕ → Type 0
SameInside H K low high = (i : ℕ) → low ≤ i → i < high → slice_index_or K i [] ≡ slice_index_or H i []

pub warm_inside : (H K : List (List Symbol)) (code : Code) (low : ℕ) (A : Symbols) → IsNumbered code low → SameInside H K low (low + points code) → AreWarm H code A → AreWarm K code A
warm_inside H K Finish low A n same w = w
warm_inside H K (Move x e rest) low A n same w = warm_inside H K rest low A n same w
warm_inside H K (Ask at p x c rest) low A n same w = warm_inside H K rest (low + 1) A n.1 (λ i g l. same i (omega arith) (omega arith)) w
warm_inside H K (Fork at p q test a b rest) low A n same w = (
  warm_inside H K a (low + 1) (Flow rest A) n.1 (λ i g l. same i (omega arith) (omega arith)) w.0,
  warm_inside H K b (low + 2 + points a) (Flow rest A) n.3 (λ i g l. same i (omega arith) (omega arith)) w.1,
  warm_inside H K rest (low + 2 + points a + points b) A n.4 (λ i g l. same i (omega arith) (omega arith)) w.2,
)
warm_inside H K (Loop at p m x body rest) low A k same w =
    let e = k.1 in
    let at_p = same p (omega arith) (omega arith) in (
      λ s c. w.0 s (subst (λ (l : List Symbol). Contains l s) at_p c),
      subst (λ (l : List Symbol). AreWarm K body (Contains l)) (sym at_p) (warm_inside H K body low (HeadAt H p) k.0 (λ i g l. same i (omega arith) (omega arith)) w.1),
      warm_inside H K rest (low + points body + 1) A k.2 (λ i g l. same i (omega arith) (omega arith)) w.2,
    )
warm_inside H K (Quit es rest) low A n same w = warm_inside H K rest low A n same w

-- the code's numbers lie below or above what changed
pub warm_below : (H K : List (List Symbol)) (code : Code) (low start end' : ℕ) (A : Symbols) → IsNumbered code low → SameOutside H K start end' → low + points code ≤ start → AreWarm H code A → AreWarm K code A
warm_below H K code low start end' A n same le = warm_inside H K code low A n (λ i g l. same i (inl (omega arith)))

pub warm_above : (H K : List (List Symbol)) (code : Code) (low start end' : ℕ) (A : Symbols) → IsNumbered code low → SameOutside H K start end' → end' ≤ low → AreWarm H code A → AreWarm K code A
warm_above H K code low start end' A n same le = warm_inside H K code low A n (λ i g l. same i (inr (omega arith)))

pub outside_wider : (H K : List (List Symbol)) (low high start end' : ℕ) → SameOutside H K low high → start ≤ low → high ≤ end' → SameOutside H K start end'
outside_wider H K low high start end' same a b i (inl h) = same i (inl (omega arith))
outside_wider H K low high start end' same a b i (inr h) = same i (inr (omega arith))

pub outside_trans : (H K L : List (List Symbol)) (low high : ℕ) → SameOutside H K low high → SameOutside K L low high → SameOutside H L low high
outside_trans H K L low high f g i h = g i h ∙ f i h

-- ---- statements of a block

-- a statement, and the rest of its block
pub record Parts (whole one rest : Code) : Type 0 where
  pub count : points whole ≡ points one + points rest
  pub numbers : (low : ℕ) → IsNumbered whole low → IsNumbered one low × IsNumbered rest (low + points one)

parts_move : (x : ℕ) (e : _) (rest : Code) → Parts (Move x e rest) (Move x e Finish) rest
parts_move x e rest = record { count = omega arith; numbers = λ low n. (tt, subst (IsNumbered rest) (omega arith) n) }

parts_ask : (at p : ℕ) (x : _) (c : _) (rest : Code) → Parts (Ask at p x c rest) (Ask at p x c Finish) rest
parts_ask at p x c rest = record { count = omega arith; numbers = λ low n. ((n.0, tt), subst (IsNumbered rest) (omega arith) n.1) }

parts_fork : (at p q : ℕ) (test : _) (a b rest : Code) → Parts (Fork at p q test a b rest) (Fork at p q test a b Finish) rest
parts_fork at p q test a b rest = record { count = omega arith; numbers = λ low n. ((n.0, n.1, n.2, n.3, tt), subst (IsNumbered rest) (omega arith) n.4) }

parts_loop : (at p m x : ℕ) (body rest : Code) → Parts (Loop at p m x body rest) (Loop at p m x body Finish) rest
parts_loop at p m x body rest = record { count = omega arith; numbers = λ low n. ((n.0, n.1, tt), subst (IsNumbered rest) (omega arith) n.2) }

parts_quit : (es : _) (rest : Code) → Parts (Quit es rest) (Quit es Finish) rest
parts_quit es rest = record { count = omega arith; numbers = λ low n. (tt, subst (IsNumbered rest) (omega arith) n) }

module _ (rest : Code) where
  both : (c d e f : Code) → c ≡ d → e ≡ f → Parts d f rest → Parts c e rest
  both c d e f p q h = subst (λ (z : Code). Parts z e rest) (sym p) (subst (λ (z : Code). Parts d z rest) (sym q) h)

  pub parts_of : (s : CheckedStmt) → Parts (stmt_code s rest) (stmt_code s Finish) rest
  parts_of = checked_cases (λ s. Parts (stmt_code s rest) (stmt_code s Finish) rest)
      (λ x e. both _ _ _ _ (code_store x e rest) (code_store x e Finish) (parts_move x (expr_term e) rest))
      (λ at p x c. both _ _ _ _ (code_perform at p x c rest) (code_perform at p x c Finish) (parts_ask at p x c rest))
      (λ at p q c a b. both _ _ _ _ (code_choose at p q c a b rest) (code_choose at p q c a b Finish) (parts_fork at p q (cond_test c) (block_code a) (block_code b) rest))
      (λ at p n x body. both _ _ _ _ (code_repeat at p n x body rest) (code_repeat at p n x body Finish) (parts_loop at p n x (block_code body) rest))
      (λ es. both _ _ _ _ (code_answer es rest) (code_answer es Finish) (parts_quit (map expr_term es) rest))

  module _ (H : List (List Symbol)) (A : Symbols) where
    abbrev WarmParts : Code → Code → Type 0
    WarmParts whole one = AreWarm H whole A ↔ (AreWarm H one (Flow rest A) × AreWarm H rest A)

    warm_both : (c d e f : Code) → c ≡ d → e ≡ f → WarmParts d f → WarmParts c e
    warm_both c d e f p q h = subst (λ (z : Code). WarmParts z e) (sym p) (subst (λ (z : Code). WarmParts d z) (sym q) h)

    pub warm_parts : (s : CheckedStmt) → WarmParts (stmt_code s rest) (stmt_code s Finish)
    warm_parts = checked_cases (λ s. WarmParts (stmt_code s rest) (stmt_code s Finish))
        (λ x e. warm_both _ _ _ _ (code_store x e rest) (code_store x e Finish) (λ w. (tt, w), λ w. w.1))
        (λ at p x c. warm_both _ _ _ _ (code_perform at p x c rest) (code_perform at p x c Finish) (λ w. (tt, w), λ w. w.1))
        (λ at p q c a b. warm_both _ _ _ _ (code_choose at p q c a b rest) (code_choose at p q c a b Finish) (λ w. ((w.0, w.1, tt), w.2), λ w. (w.0.0, w.0.1, w.1)))
        (λ at p n x body. warm_both _ _ _ _ (code_repeat at p n x body rest) (code_repeat at p n x body Finish) (λ w. ((w.0, w.1, tt), w.2), λ w. (w.0.0, w.0.1, w.1)))
        (λ es. warm_both _ _ _ _ (code_answer es rest) (code_answer es Finish) (λ w. (tt, w), λ w. w.1))

-- the number of the first point of the statement at a place
abbrev pub start_of : List CheckedStmt → ℕ → ℕ → ℕ
start_of [] i low = low
start_of (s ∷ ss) zero low = low
start_of (s ∷ ss) (suc i) low = start_of ss i (low + points (stmt_code s Finish))

pub numbered_at : (ss : List CheckedStmt) (i : ℕ) (d : CheckedStmt) (low : ℕ) → i < length ss → IsNumbered (block_code ss) low → IsNumbered (stmt_code (get_or ss i d) Finish) (start_of ss i low)
numbered_at [] i d low lt n = absurd (omega arith)
numbered_at (s ∷ ss) zero d low lt n = ((parts_of (block_code ss) s).numbers low n).0
numbered_at (s ∷ ss) (suc i) d low lt n = numbered_at ss i d (low + points (stmt_code s Finish)) (omega arith) ((parts_of (block_code ss) s).numbers low n).1

start_above : (ss : List CheckedStmt) (i low : ℕ) → low ≤ start_of ss i low
start_above [] i low = omega arith
start_above (s ∷ ss) zero low = omega arith
start_above (s ∷ ss) (suc i) low = let h = start_above ss i (low + points (stmt_code s Finish)) in omega arith

end_below : (ss : List CheckedStmt) (i : ℕ) (d : CheckedStmt) (low : ℕ) → i < length ss → start_of ss i low + points (stmt_code (get_or ss i d) Finish) ≤ low + points (block_code ss)
end_below [] i d low lt = absurd (omega arith)
end_below (s ∷ ss) zero d low lt = let e = (parts_of (block_code ss) s).count in omega arith
end_below (s ∷ ss) (suc i) d low lt =
    let e = (parts_of (block_code ss) s).count in
    let h = end_below ss i d (low + points (stmt_code s Finish)) (omega arith) in
    omega arith

pub warm_at : (H : List (List Symbol)) (ss : List CheckedStmt) (i : ℕ) (d : CheckedStmt) (A : Symbols) → i < length ss → AreWarm H (block_code ss) A → AreWarm H (stmt_code (get_or ss i d) Finish) (Flow (block_code (drop (suc i) ss)) A)
warm_at H [] i d A lt w = absurd (omega arith)
warm_at H (s ∷ ss) zero d A lt w = ((warm_parts (block_code ss) H A s).0 w).0
warm_at H (s ∷ ss) (suc i) d A lt w = warm_at H ss i d A (omega arith) ((warm_parts (block_code ss) H A s).0 w).1

-- a statement was walked again
pub warm_again : (H K : List (List Symbol)) (ss : List CheckedStmt) (i : ℕ) (d : CheckedStmt) (low : ℕ) (A : Symbols) → i < length ss → IsNumbered (block_code ss) low → SameOutside H K (start_of ss i low) (start_of ss i low + points (stmt_code (get_or ss i d) Finish))
    → AreWarm K (stmt_code (get_or ss i d) Finish) (Flow (block_code (drop (suc i) ss)) A) → AreWarm H (block_code ss) A → AreWarm K (block_code ss) A
warm_again H K [] i d low A lt n same here w = absurd (omega arith)
warm_again H K (s ∷ ss) zero d low A lt n same here w =
    let numbers = (parts_of (block_code ss) s).numbers low n in
    let old = (warm_parts (block_code ss) H A s).0 w in
    (warm_parts (block_code ss) K A s).1 (here, warm_above H K (block_code ss) (low + points (stmt_code s Finish)) low (low + points (stmt_code s Finish)) A numbers.1 same (omega arith) old.1)
warm_again H K (s ∷ ss) (suc i) d low A lt n same here w =
    let numbers = (parts_of (block_code ss) s).numbers low n in
    let old = (warm_parts (block_code ss) H A s).0 w in
    let next = low + points (stmt_code s Finish) in
    let above = start_above ss i next in
    (warm_parts (block_code ss) K A s).1 (
      warm_below H K (stmt_code s Finish) low (start_of ss i next) (start_of ss i next + points (stmt_code (get_or ss i d) Finish)) (Flow (block_code ss) A) numbers.0 same (omega arith) old.0,
      warm_again H K ss i d next A (omega arith) numbers.1 same here old.1,
    )

-- and nothing outside its block has changed
pub outside_block : (H K : List (List Symbol)) (ss : List CheckedStmt) (i : ℕ) (d : CheckedStmt) (low : ℕ) → i < length ss → SameOutside H K (start_of ss i low) (start_of ss i low + points (stmt_code (get_or ss i d) Finish)) → SameOutside H K low (low + points (block_code ss))
outside_block H K ss i d low lt same = outside_wider H K _ _ low (low + points (block_code ss)) same (start_above ss i low) (end_below ss i d low lt)

-- ---- the statement before those that are walked

module _ (items : List CheckedStmt) (i : ℕ) (x : CheckedStmt) (some : 0 < i) (le : i ≤ length items) (is : x ≡ get_or items (i - 1) x) where
  within_items : i - 1 < length items
  within_items = omega arith

  up : suc (i - 1) ≡ i
  up = omega arith

  pub numbered_next : (low : ℕ) → IsNumbered (block_code items) low → IsNumbered (stmt_code x Finish) (start_of items (i - 1) low)
  numbered_next low n = subst (λ (z : CheckedStmt). IsNumbered (stmt_code z Finish) (start_of items (i - 1) low)) (sym is) (numbered_at items (i - 1) x low within_items n)

  pub warm_next : (H : List (List Symbol)) (A : Symbols) (set : List Symbol) → AreWarm H (block_code items) A → Are set (Flow (block_code (drop i items)) A) → AreWarm H (stmt_code x Finish) (Contains set)
  warm_next H A set w are =
      let here = subst (λ (k : ℕ). AreWarm H (stmt_code (get_or items (i - 1) x) Finish) (Flow (block_code (drop k items)) A)) up (warm_at H items (i - 1) x A within_items w) in
      warm_larger H (stmt_code x Finish) (Flow (block_code (drop i items)) A) (Contains set) (λ s m. (are s).1 m) (subst (λ (z : CheckedStmt). AreWarm H (stmt_code z Finish) (Flow (block_code (drop i items)) A)) (sym is) here)

  module _ (H K : List (List Symbol)) (others : (j : ℕ) → IsNumbered (stmt_code x Finish) j → SameOutside H K j (j + points (stmt_code x Finish))) where
    changed : (low : ℕ) → IsNumbered (block_code items) low → SameOutside H K (start_of items (i - 1) low) (start_of items (i - 1) low + points (stmt_code (get_or items (i - 1) x) Finish))
    changed low n = subst (λ (z : CheckedStmt). SameOutside H K (start_of items (i - 1) low) (start_of items (i - 1) low + points (stmt_code z Finish))) is (others (start_of items (i - 1) low) (numbered_next low n))

    pub warm_after : (A : Symbols) (set : List Symbol) (low : ℕ) → IsNumbered (block_code items) low → Are set (Flow (block_code (drop i items)) A) → AreWarm K (stmt_code x Finish) (Contains set) → AreWarm H (block_code items) A → AreWarm K (block_code items) A
    warm_after A set low n are here w =
        let exact = warm_larger K (stmt_code x Finish) (Contains set) (Flow (block_code (drop i items)) A) (λ s m. (are s).0 m) here in
        let at = subst (λ (z : CheckedStmt). AreWarm K (stmt_code z Finish) (Flow (block_code (drop i items)) A)) is exact in
        warm_again H K items (i - 1) x low A within_items n (changed low n) (subst (λ (k : ℕ). AreWarm K (stmt_code (get_or items (i - 1) x) Finish) (Flow (block_code (drop k items)) A)) (sym up) at) w

    pub others_after : (G : List (List Symbol)) → ((low : ℕ) → IsNumbered (block_code items) low → SameOutside G H low (low + points (block_code items))) → (low : ℕ) → IsNumbered (block_code items) low → SameOutside G K low (low + points (block_code items))
    others_after G before low n = outside_trans G H K low (low + points (block_code items)) (before low n) (outside_block H K items (i - 1) x low within_items (changed low n))

-- ---- a loop

pub is_itself : (p : ℕ) → (p == p) ≡ true
is_itself p = grind (arith, nat_tests)
