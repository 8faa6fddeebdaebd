-- An induction over statements.
use Rattle.std.proofs.Common.{ℕ, List, [], ◌∷◌, map, subst}
use Rattle.std.specs.List.{AllByRecursion}
use Rattle.syntax_trees.specs.declared.expr.Expr.{Expr}
use Rattle.syntax_trees.specs.declared.stmt.Call.{Call}
use Rattle.syntax_trees.specs.declared.stmt.Cond.{Cond}
use Rattle.syntax_trees.specs.declared.stmt.Right.{Right}
use Rattle.syntax_trees.specs.declared.stmt.Stmt.{Stmt, roll-Stmt, map-Stmt}
use Rattle.syntax_trees.specs.declared.stmt.Stmt.TheFolds.{ind-Stmt}
use Rattle.syntax_trees.specs.declared.stmt.Stmt.TheOpen.{Stmt-F}
use Rattle.syntax_trees.specs.declared.stmt.Stmt.TheVariants as stmt

-- what holds of each kind of statement where it holds of those inside
pub record EachHolds (P : Stmt → Type 0) : Type 0 where
  pub let_stmt : (n p : ℕ) (r : Right) → P (stmt.Let n p r)
  pub assign_stmt : (n p : ℕ) (r : Right) → P (stmt.Assign n p r)
  pub call_stmt : (call : Call) → P (stmt.Perform call)
  pub choose_stmt : (p : ℕ) (cond : Cond) (first second : List Stmt) → AllByRecursion P first → AllByRecursion P second → P (stmt.Choose p cond first second)
  pub repeat_stmt : (p turns q n r : ℕ) (body : List Stmt) → AllByRecursion P body → P (stmt.Repeat p turns q n r body)
  pub reply_stmt : (p : ℕ) (values : List Expr) → P (stmt.Answer p values)

module _ (P : Stmt → Type 0) (each : EachHolds P) where
  all_inside : (ys : List ((s : Stmt) × P s)) → AllByRecursion P (map (λ (y : (s : Stmt) × P s). y.0) ys)
  all_inside [] = tt
  all_inside (y ∷ ys) = (y.1, all_inside ys)

  stmt_held : (y : Stmt-F ((s : Stmt) × P s)) → P (roll-Stmt (map-Stmt ((s : Stmt) × P s) Stmt (λ s. s.0) y))
  unfolding roll-Stmt denote.Hole.Carrier.roll
  stmt_held (Stmt-F.Let n p r) = each.let_stmt n p r
  stmt_held (Stmt-F.Assign n p r) = each.assign_stmt n p r
  stmt_held (Stmt-F.Perform call) = each.call_stmt call
  stmt_held (Stmt-F.Choose p cond first second) = each.choose_stmt p cond _ _ (all_inside first) (all_inside second)
  stmt_held (Stmt-F.Repeat p turns q n r body) = each.repeat_stmt p turns q n r _ (all_inside body)
  stmt_held (Stmt-F.Answer p values) = each.reply_stmt p values

  pub stmt_induction : (s : Stmt) → P s
  stmt_induction = ind-Stmt P (λ x y is. subst (λ z. P (roll-Stmt z)) is (stmt_held y))
