-- The places of a statement's points, and of those behind it.
use Rattle.std.proofs.Common.{◌≡◌, ℕ, ◌+◌, ◌<◌, ◌≤◌, List, [], ◌∷◌, ◌++◌, map, length, drop, get_or, length-append, append_assoc, append-nil, refl, sym, ap, ◌∙◌, arith}
use Rattle.std.proofs.lemmas.List.{drop_more, drop_all}
use Rattle.check_meaning.specs.declared.tree.CheckedStmt.{CheckedStmt}
use Rattle.check_meaning.specs.declared.tree.CheckedStmt.TheVariants as stmt
use Rattle.check_meaning.specs.Code.{Code, Finish, Move, Ask, Fork, Loop, Quit, expr_term, cond_test, stmt_code, block_code, points}
use Rattle.check_meaning.proofs.Codes.{checked_cases, code_store, code_perform, code_choose, code_repeat, code_answer}
use Rattle.may_use_analysis.specs.Places.{places}

pub places_stmt : (rest : Code) (s : CheckedStmt) → places (stmt_code s rest) ≡ places (stmt_code s Finish) ++ places rest
places_stmt rest = checked_cases (λ s. places (stmt_code s rest) ≡ places (stmt_code s Finish) ++ places rest)
    (λ x e. both (stmt_code (stmt.Store x e) rest) (stmt_code (stmt.Store x e) Finish) (Move x (expr_term e) rest) (Move x (expr_term e) Finish) (code_store x e rest) (code_store x e Finish) refl)
    (λ at p x c. both (stmt_code (stmt.Perform at p x c) rest) (stmt_code (stmt.Perform at p x c) Finish) (Ask at p x c rest) (Ask at p x c Finish) (code_perform at p x c rest) (code_perform at p x c Finish) refl)
    (λ at p q c a b. both (stmt_code (stmt.Choose at p q c a b) rest) (stmt_code (stmt.Choose at p q c a b) Finish) (Fork at p q (cond_test c) (block_code a) (block_code b) rest) (Fork at p q (cond_test c) (block_code a) (block_code b) Finish) (code_choose at p q c a b rest) (code_choose at p q c a b Finish) (fork at (places (block_code a)) (places (block_code b)) (places rest)))
    (λ at p n x body. both (stmt_code (stmt.Repeat at p n x body) rest) (stmt_code (stmt.Repeat at p n x body) Finish) (Loop at p n x (block_code body) rest) (Loop at p n x (block_code body) Finish) (code_repeat at p n x body rest) (code_repeat at p n x body Finish) (sym (append_assoc (places (block_code body)) (at ∷ []) (places rest))))
    (λ es. both (stmt_code (stmt.Answer es) rest) (stmt_code (stmt.Answer es) Finish) (Quit (map expr_term es) rest) (Quit (map expr_term es) Finish) (code_answer es rest) (code_answer es Finish) refl)
  where
    both : (c d e f : Code) → c ≡ e → d ≡ f → places e ≡ places f ++ places rest → places c ≡ places d ++ places rest
    both c d e f p q h = ap places p ∙ h ∙ ap (λ (z : Code). places z ++ places rest) (sym q)

    fork : (at : ℕ) (a b r : List ℕ) → at ∷ (a ++ at ∷ (b ++ r)) ≡ (at ∷ (a ++ at ∷ (b ++ []))) ++ r
    fork at a b r =
        ap (λ (z : List ℕ). at ∷ z) (ap (λ (z : List ℕ). a ++ at ∷ (z ++ r)) (sym (append-nil b)) ∙ sym (append_assoc a (at ∷ (b ++ [])) r))

-- one more statement of a block
pub places_more : (ss : List CheckedStmt) (i : ℕ) (s : CheckedStmt) (out new whole : List ℕ) → i < length ss → s ≡ get_or ss i s → new ≡ out ++ places (stmt_code s Finish) → out ++ places (block_code (drop i ss)) ≡ whole → new ++ places (block_code (drop (i + 1) ss)) ≡ whole
places_more ss i s out new whole lt is e so_far =
    let rest : Code = block_code (drop (i + 1) ss) in
    ap (λ (z : List ℕ). z ++ places rest) e
    ∙ append_assoc out (places (stmt_code s Finish)) (places rest)
    ∙ ap (λ (z : List ℕ). out ++ z) (sym (places_stmt rest s))
    ∙ ap (λ (z : CheckedStmt). out ++ places (stmt_code z rest)) is
    ∙ ap (λ (zs : List CheckedStmt). out ++ places (block_code zs)) (sym (drop_more ss i s lt))
    ∙ so_far

pub places_end : (ss : List CheckedStmt) (i : ℕ) (out whole : List ℕ) → length ss ≤ i → out ++ places (block_code (drop i ss)) ≡ whole → out ≡ whole
places_end ss i out whole le so_far =
    sym (append-nil out) ∙ ap (λ (zs : List CheckedStmt). out ++ places (block_code zs)) (sym (drop_all i ss le)) ∙ so_far

pub own_choose : (s : CheckedStmt) (at p q : ℕ) (c : _) (a b xs ys : List CheckedStmt) → s ≡ stmt.Choose at p q c a b → xs ≡ a → ys ≡ b → places (stmt_code s Finish) ≡ at ∷ (places (block_code xs) ++ at ∷ places (block_code ys))
own_choose s at p q c a b xs ys is e f =
    ap (λ (z : CheckedStmt). places (stmt_code z Finish)) is
    ∙ ap places (code_choose at p q c a b Finish)
    ∙ ap (λ (z : List ℕ). at ∷ (places (block_code a) ++ at ∷ z)) (append-nil (places (block_code b)))
    ∙ ap (λ (z : List CheckedStmt). at ∷ (places (block_code z) ++ at ∷ places (block_code b))) (sym e)
    ∙ ap (λ (z : List CheckedStmt). at ∷ (places (block_code xs) ++ at ∷ places (block_code z))) (sym f)

pub own_repeat : (s : CheckedStmt) (at p n x : ℕ) (body xs : List CheckedStmt) → s ≡ stmt.Repeat at p n x body → xs ≡ body → places (stmt_code s Finish) ≡ places (block_code xs) ++ at ∷ []
own_repeat s at p n x body xs is e =
    ap (λ (z : CheckedStmt). places (stmt_code z Finish)) is ∙ ap places (code_repeat at p n x body Finish) ∙ ap (λ (z : List CheckedStmt). places (block_code z) ++ at ∷ []) (sym e)

-- there are as many places as points
pub places_count : (code : Code) → length (places code) ≡ points code
places_count Finish = refl
places_count (Move x e rest) = places_count rest
places_count (Ask at p x c rest) = omega (arith, places_count rest)
places_count (Fork at p q test a b rest) =
    omega (arith, length-append (places a) (at ∷ (places b ++ places rest)), length-append (places b) (places rest), places_count a, places_count b, places_count rest)
places_count (Loop at p n x body rest) = omega (arith, length-append (places body) (at ∷ places rest), places_count body, places_count rest)
places_count (Quit es rest) = places_count rest
