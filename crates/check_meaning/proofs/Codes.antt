-- The code of each kind of statement, and cases of statements.
use Rattle.std.proofs.Common.{◌≡◌, ℕ, List, map, Option, subst, rules}
use Rattle.check_meaning.specs.declared.tree.CheckedCall.{CheckedCall}
use Rattle.check_meaning.specs.declared.tree.CheckedCond.{CheckedCond}
use Rattle.check_meaning.specs.declared.tree.CheckedExpr.{CheckedExpr}
use Rattle.check_meaning.specs.declared.tree.CheckedStmt.{CheckedStmt, roll-CheckedStmt, map-CheckedStmt, the_lemmas}
use Rattle.check_meaning.specs.declared.tree.CheckedStmt.TheFolds.{ind-CheckedStmt}
use Rattle.check_meaning.specs.declared.tree.CheckedStmt.TheOpen.{CheckedStmt-F}
use Rattle.check_meaning.specs.declared.tree.CheckedStmt.TheVariants as stmt
use Rattle.check_meaning.specs.Code.{Code, Move, Ask, Fork, Loop, Quit, expr_term, cond_test, stmt_code, block_code}

pub code_store : (x : ℕ) (e : CheckedExpr) (rest : Code) → stmt_code (stmt.Store x e) rest ≡ Move x (expr_term e) rest
code_store x e rest = search (rules, the_lemmas)

pub code_perform : (at p : ℕ) (x : Option ℕ) (c : CheckedCall) (rest : Code) → stmt_code (stmt.Perform at p x c) rest ≡ Ask at p x c rest
code_perform at p x c rest = search (rules, the_lemmas)

pub code_choose : (at p q : ℕ) (c : CheckedCond) (a b : List CheckedStmt) (rest : Code) → stmt_code (stmt.Choose at p q c a b) rest ≡ Fork at p q (cond_test c) (block_code a) (block_code b) rest
code_choose at p q c a b rest = search (rules, the_lemmas)

pub code_repeat : (at p n x : ℕ) (body : List CheckedStmt) (rest : Code) → stmt_code (stmt.Repeat at p n x body) rest ≡ Loop at p n x (block_code body) rest
code_repeat at p n x body rest = search (rules, the_lemmas)

pub code_answer : (es : List CheckedExpr) (rest : Code) → stmt_code (stmt.Answer es) rest ≡ Quit (map expr_term es) rest
code_answer es rest = search (rules, the_lemmas)

module _ (P : CheckedStmt → Type 0) (store : (x : ℕ) (e : CheckedExpr) → P (stmt.Store x e)) (perform : (at p : ℕ) (x : Option ℕ) (c : CheckedCall) → P (stmt.Perform at p x c))
    (choose : (at p q : ℕ) (c : CheckedCond) (a b : List CheckedStmt) → P (stmt.Choose at p q c a b)) (repeat : (at p n x : ℕ) (body : List CheckedStmt) → P (stmt.Repeat at p n x body)) (answer : (es : List CheckedExpr) → P (stmt.Answer es)) where
  rolled : (y : CheckedStmt-F ((s : CheckedStmt) × P s)) → P (roll-CheckedStmt (map-CheckedStmt ((s : CheckedStmt) × P s) CheckedStmt (λ s. s.0) y))
  unfolding roll-CheckedStmt denote.Hole.Carrier.roll
  rolled (CheckedStmt-F.Store x e) = store x e
  rolled (CheckedStmt-F.Perform at p x c) = perform at p x c
  rolled (CheckedStmt-F.Choose at p q c a b) = choose at p q c _ _
  rolled (CheckedStmt-F.Repeat at p n x body) = repeat at p n x _
  rolled (CheckedStmt-F.Answer es) = answer es

  pub checked_cases : (s : CheckedStmt) → P s
  checked_cases = ind-CheckedStmt P (λ x y is. subst (λ z. P (roll-CheckedStmt z)) is (rolled y))
