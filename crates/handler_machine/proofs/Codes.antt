-- Cases of the code of statements.
use Rattle.std.proofs.Common.{◌≡◌, ℕ, List, map, Option, sym, subst}
use Rattle.check_meaning.specs.declared.tree.CheckedCall.{CheckedCall}
use Rattle.check_meaning.specs.declared.tree.CheckedCond.{CheckedCond}
use Rattle.check_meaning.specs.declared.tree.CheckedExpr.{CheckedExpr}
use Rattle.check_meaning.specs.declared.tree.CheckedStmt.{CheckedStmt}
use Rattle.check_meaning.specs.declared.tree.CheckedStmt.TheVariants as stmt
use Rattle.check_meaning.specs.Code.{Code, Move, Ask, Fork, Loop, Quit, expr_term, cond_test, stmt_code, block_code}
use Rattle.check_meaning.proofs.Codes.{code_store, code_perform, code_choose, code_repeat, code_answer, checked_cases}

-- what holds of a statement's code and of its code alone, where it holds of the plain forms
module _ (Q : (Code → Code) → Type 0) (move : (x : ℕ) (e : CheckedExpr) → Q (Move x (expr_term e))) (ask : (at p : ℕ) (x : Option ℕ) (c : CheckedCall) → Q (Ask at p x c))
    (fork : (at p q : ℕ) (c : CheckedCond) (a b : List CheckedStmt) → Q (Fork at p q (cond_test c) (block_code a) (block_code b))) (loop : (at p n x : ℕ) (body : List CheckedStmt) → Q (Loop at p n x (block_code body))) (quit : (es : List CheckedExpr) → Q (Quit (map expr_term es))) where
  pub code_cases : (s : CheckedStmt) → Q (stmt_code s)
  code_cases = checked_cases (λ s. Q (stmt_code s))
      (λ x e. back (stmt_code (stmt.Store x e)) (Move x (expr_term e)) (code_store x e) (move x e))
      (λ at p x c. back (stmt_code (stmt.Perform at p x c)) (Ask at p x c) (code_perform at p x c) (ask at p x c))
      (λ at p q c a b. back (stmt_code (stmt.Choose at p q c a b)) (Fork at p q (cond_test c) (block_code a) (block_code b)) (code_choose at p q c a b) (fork at p q c a b))
      (λ at p n x body. back (stmt_code (stmt.Repeat at p n x body)) (Loop at p n x (block_code body)) (code_repeat at p n x body) (loop at p n x body))
      (λ es. back (stmt_code (stmt.Answer es)) (Quit (map expr_term es)) (code_answer es) (quit es))
    where
      back : (f g : Code → Code) → ((c : Code) → f c ≡ g c) → Q g → Q f
      back f g h q = subst Q (λ i c. sym (h c) i) q
