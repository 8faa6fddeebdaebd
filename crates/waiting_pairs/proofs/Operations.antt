-- The operations of a statement, and of those behind it.
use Rattle.std.proofs.Common.{◌≡◌, ℕ, suc, ◌+◌, ◌<◌, ◌≤◌, List, [], ◌∷◌, ◌++◌, map, length, drop, get_or, append_assoc, append-nil, refl, sym, ap, ◌∙◌, arith}
use Rattle.std.proofs.lemmas.List.{drop_more, drop_all}
use Rattle.check_meaning.specs.declared.tree.CheckedStmt.{CheckedStmt}
use Rattle.check_meaning.specs.declared.tree.CheckedStmt.TheVariants as stmt
use Rattle.check_meaning.specs.Code.{Code, Finish, Move, Ask, Fork, Loop, Quit, expr_term, cond_test, stmt_code, block_code}
use Rattle.check_meaning.proofs.Codes.{checked_cases, code_store, code_perform, code_choose, code_repeat, code_answer}
use Rattle.waiting_pairs.specs.declared.asked.Asked.{Asked}
use Rattle.waiting_pairs.specs.Waits.{gather, operations}

pub operations_stmt : (h : ℕ) (rest : Code) (s : CheckedStmt) → operations h (stmt_code s rest) ≡ operations h (stmt_code s Finish) ++ operations h rest
operations_stmt h rest = checked_cases (λ s. operations h (stmt_code s rest) ≡ operations h (stmt_code s Finish) ++ operations h rest)
    (λ x e. both (stmt_code (stmt.Store x e) rest) (stmt_code (stmt.Store x e) Finish) (Move x (expr_term e) rest) (Move x (expr_term e) Finish) (code_store x e rest) (code_store x e Finish) refl)
    (λ at p x c. both (stmt_code (stmt.Perform at p x c) rest) (stmt_code (stmt.Perform at p x c) Finish) (Ask at p x c rest) (Ask at p x c Finish) (code_perform at p x c rest) (code_perform at p x c Finish) refl)
    (λ at p q c a b. both (stmt_code (stmt.Choose at p q c a b) rest) (stmt_code (stmt.Choose at p q c a b) Finish) (Fork at p q (cond_test c) (block_code a) (block_code b) rest) (Fork at p q (cond_test c) (block_code a) (block_code b) Finish) (code_choose at p q c a b rest) (code_choose at p q c a b Finish) (fork (operations h (block_code a)) (operations h (block_code b)) (operations h rest)))
    (λ at p n x body. both (stmt_code (stmt.Repeat at p n x body) rest) (stmt_code (stmt.Repeat at p n x body) Finish) (Loop at p n x (block_code body) rest) (Loop at p n x (block_code body) Finish) (code_repeat at p n x body rest) (code_repeat at p n x body Finish) (ap (λ (z : List Asked). z ++ operations h rest) (sym (append-nil (operations h (block_code body))))))
    (λ es. both (stmt_code (stmt.Answer es) rest) (stmt_code (stmt.Answer es) Finish) (Quit (map expr_term es) rest) (Quit (map expr_term es) Finish) (code_answer es rest) (code_answer es Finish) refl)
  where
    both : (c d e f : Code) → c ≡ e → d ≡ f → operations h e ≡ operations h f ++ operations h rest → operations h c ≡ operations h d ++ operations h rest
    both c d e f p q k = ap (operations h) p ∙ k ∙ ap (λ (z : Code). operations h z ++ operations h rest) (sym q)

    fork : (a b r : List Asked) → a ++ (b ++ r) ≡ (a ++ (b ++ [])) ++ r
    fork a b r = ap (λ (z : List Asked). a ++ (z ++ r)) (sym (append-nil b)) ∙ sym (append_assoc a (b ++ []) r)

-- one more statement of a block
pub operations_more : (h : ℕ) (ss : List CheckedStmt) (i : ℕ) (s : CheckedStmt) (out new whole : List Asked) → i < length ss → s ≡ get_or ss i s → new ≡ out ++ operations h (stmt_code s Finish) → out ++ operations h (block_code (drop i ss)) ≡ whole → new ++ operations h (block_code (drop (i + 1) ss)) ≡ whole
operations_more h ss i s out new whole lt is e so_far =
    let rest : Code = block_code (drop (i + 1) ss) in
    ap (λ (z : List Asked). z ++ operations h rest) e
    ∙ append_assoc out (operations h (stmt_code s Finish)) (operations h rest)
    ∙ ap (λ (z : List Asked). out ++ z) (sym (operations_stmt h rest s))
    ∙ ap (λ (z : CheckedStmt). out ++ operations h (stmt_code z rest)) is
    ∙ ap (λ (zs : List CheckedStmt). out ++ operations h (block_code zs)) (sym (drop_more ss i s lt))
    ∙ so_far

pub operations_end : (h : ℕ) (ss : List CheckedStmt) (i : ℕ) (out whole : List Asked) → length ss ≤ i → out ++ operations h (block_code (drop i ss)) ≡ whole → out ≡ whole
operations_end h ss i out whole le so_far =
    sym (append-nil out) ∙ ap (λ (zs : List CheckedStmt). out ++ operations h (block_code zs)) (sym (drop_all i ss le)) ∙ so_far

pub own_choose : (h : ℕ) (s : CheckedStmt) (at p q : ℕ) (c : _) (a b xs ys : List CheckedStmt) → s ≡ stmt.Choose at p q c a b → xs ≡ a → ys ≡ b → operations h (stmt_code s Finish) ≡ operations h (block_code xs) ++ operations h (block_code ys)
own_choose h s at p q c a b xs ys is e f =
    ap (λ (z : CheckedStmt). operations h (stmt_code z Finish)) is
    ∙ ap (operations h) (code_choose at p q c a b Finish)
    ∙ ap (λ (z : List Asked). operations h (block_code a) ++ z) (append-nil (operations h (block_code b)))
    ∙ ap (λ (z : List CheckedStmt). operations h (block_code z) ++ operations h (block_code b)) (sym e)
    ∙ ap (λ (z : List CheckedStmt). operations h (block_code xs) ++ operations h (block_code z)) (sym f)

pub own_repeat : (h : ℕ) (s : CheckedStmt) (at p n x : ℕ) (body xs : List CheckedStmt) → s ≡ stmt.Repeat at p n x body → xs ≡ body → operations h (stmt_code s Finish) ≡ operations h (block_code xs)
own_repeat h s at p n x body xs is e =
    ap (λ (z : CheckedStmt). operations h (stmt_code z Finish)) is ∙ ap (operations h) (code_repeat at p n x body Finish) ∙ append-nil (operations h (block_code body)) ∙ ap (λ (z : List CheckedStmt). operations h (block_code z)) (sym e)

-- one more handler
pub asked_more : (f : ℕ → List Asked) (n : ℕ) (out new : List Asked) → out ≡ gather f n → new ≡ out ++ f n → new ≡ gather f (n + 1)
asked_more f n out new so_far e =
    let on : suc n ≡ n + 1 = omega arith in
    e ∙ ap (λ (z : List Asked). z ++ f n) so_far ∙ ap (gather f) on
