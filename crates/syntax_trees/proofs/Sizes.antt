-- How large trees are, which the recursions over them count down.
use Rattle.std.proofs.Common.{◌≡◌, ℕ, zero, suc, ◌+◌, ◌<◌, List, [], ◌∷◌, map, length, get_or, ap, ◌∙◌, rules, arith}
use Rattle.syntax_trees.specs.declared.expr.Calc.{Calc}
use Rattle.syntax_trees.specs.declared.expr.Expr.{Expr, fold-Expr, the_lemmas}
use Rattle.syntax_trees.specs.declared.expr.Expr.TheOpen.{Expr-F}
use Rattle.syntax_trees.specs.declared.expr.Expr.TheVariants as expr
use Rattle.syntax_trees.specs.declared.stmt.Cond.{Cond}
use Rattle.syntax_trees.specs.declared.stmt.Stmt.{Stmt, fold-Stmt, the_lemmas as stmt_lemmas}
use Rattle.syntax_trees.specs.declared.stmt.Stmt.TheOpen.{Stmt-F}
use Rattle.syntax_trees.specs.declared.stmt.Stmt.TheVariants as stmt

abbrev pub expr_weight : Expr-F ℕ → ℕ
expr_weight (Expr-F.Lit v) = 1
expr_weight (Expr-F.Name n p) = 1
expr_weight (Expr-F.Binary c sides) = 1 + (sides.0 + sides.1)

abbrev pub expr_size : Expr → ℕ
expr_size = fold-Expr ℕ expr_weight

size_binary : (c : Calc) (l r : Expr) → expr_size (expr.Binary c (l, r)) ≡ 1 + (expr_size l + expr_size r)
size_binary c l r = search (rules, the_lemmas)

pub left_smaller : (e x l r : Expr) (c : Calc) → e ≡ expr.Binary c (l, r) → x ≡ l → expr_size x < expr_size e
left_smaller e x l r c is same = omega (arith, ap expr_size is ∙ size_binary c l r, ap expr_size same)

pub right_smaller : (e x l r : Expr) (c : Calc) → e ≡ expr.Binary c (l, r) → x ≡ r → expr_size x < expr_size e
right_smaller e x l r c is same = omega (arith, ap expr_size is ∙ size_binary c l r, ap expr_size same)

-- of a block, where those of its statements are given
abbrev pub weights : List ℕ → ℕ
weights [] = 1
weights (n ∷ ns) = n + weights ns

abbrev pub stmt_weight : Stmt-F ℕ → ℕ
stmt_weight (Stmt-F.Choose p cond first second) = 3 + (weights first + weights second)
stmt_weight (Stmt-F.Repeat p turns q n r body) = 2 + weights body
stmt_weight _ = 1

abbrev pub stmt_size : Stmt → ℕ
stmt_size = fold-Stmt ℕ stmt_weight

abbrev pub block_size : List Stmt → ℕ
block_size ss = weights (map stmt_size ss)

pub size_choose : (p : ℕ) (cond : Cond) (first second : List Stmt) → stmt_size (stmt.Choose p cond first second) ≡ 3 + (block_size first + block_size second)
size_choose p cond first second = search (rules, stmt_lemmas)

pub size_repeat : (p turns q n r : ℕ) (body : List Stmt) → stmt_size (stmt.Repeat p turns q n r body) ≡ 2 + block_size body
size_repeat p turns q n r body = search (rules, stmt_lemmas)

pub first_smaller : (s : Stmt) (p : ℕ) (cond : Cond) (xs first second : List Stmt) → s ≡ stmt.Choose p cond first second → xs ≡ first → block_size xs < stmt_size s
first_smaller s p cond xs first second is e = omega (arith, ap stmt_size is ∙ size_choose p cond first second, ap block_size e)

pub second_smaller : (s : Stmt) (p : ℕ) (cond : Cond) (xs first second : List Stmt) → s ≡ stmt.Choose p cond first second → xs ≡ second → block_size xs < stmt_size s
second_smaller s p cond xs first second is e = omega (arith, ap stmt_size is ∙ size_choose p cond first second, ap block_size e)

pub choice_smaller : (s : Stmt) (p : ℕ) (cond : Cond) (xs ys first second : List Stmt) → s ≡ stmt.Choose p cond first second → xs ≡ first → ys ≡ second → 2 + (block_size xs + block_size ys) < stmt_size s
choice_smaller s p cond xs ys first second is e f = omega (arith, ap stmt_size is ∙ size_choose p cond first second, ap block_size e, ap block_size f)

pub repeat_smaller : (s : Stmt) (p turns q n r : ℕ) (xs body : List Stmt) → s ≡ stmt.Repeat p turns q n r body → xs ≡ body → 1 + block_size xs < stmt_size s
repeat_smaller s p turns q n r xs body is e = omega (arith, ap stmt_size is ∙ size_repeat p turns q n r body, ap block_size e)

weights_some : (ns : List ℕ) → 0 < weights ns
weights_some [] = omega arith
weights_some (n ∷ ns) = omega (arith, weights_some ns)

get_smaller : (xs : List Stmt) (i : ℕ) (d : Stmt) → i < length xs → stmt_size (get_or xs i d) < block_size xs
get_smaller [] i d h = absurd (omega arith)
get_smaller (x ∷ xs) zero d h = omega (arith, weights_some (map stmt_size xs))
get_smaller (x ∷ xs) (suc i) d h = omega (arith, get_smaller xs i d (omega arith))

pub member_smaller : (xs : List Stmt) (i : ℕ) (x d : Stmt) → i < length xs → x ≡ get_or xs i d → stmt_size x < block_size xs
member_smaller xs i x d h is = omega (arith, ap stmt_size is, get_smaller xs i d h)
