-- Inductions over expressions, and cases of statements.
use Rattle.std.proofs.Common.{ℕ, List, subst}
use Rattle.syntax_trees.specs.declared.expr.Expr.{Expr}
use Rattle.syntax_trees.specs.declared.stmt.Call.{Call}
use Rattle.syntax_trees.specs.declared.stmt.Cond.{Cond}
use Rattle.syntax_trees.specs.declared.stmt.Right.{Right}
use Rattle.syntax_trees.specs.declared.stmt.Stmt.{Stmt, roll-Stmt, map-Stmt}
use Rattle.syntax_trees.specs.declared.stmt.Stmt.TheFolds.{ind-Stmt}
use Rattle.syntax_trees.specs.declared.stmt.Stmt.TheOpen.{Stmt-F}
use Rattle.syntax_trees.specs.declared.stmt.Stmt.TheVariants as stmt
-- the equations of statements, which stand with the rules
pub use Rattle.syntax_trees.proofs.Statements.{source_let, source_assign, source_call, source_choose, source_repeat, source_reply}

-- what holds of each kind of statement
pub record EachKind (P : Stmt → Type 0) : Type 0 where
  pub let_stmt : (n p : ℕ) (r : Right) → P (stmt.Let n p r)
  pub assign_stmt : (n p : ℕ) (r : Right) → P (stmt.Assign n p r)
  pub call_stmt : (call : Call) → P (stmt.Perform call)
  pub choose_stmt : (p : ℕ) (cond : Cond) (first second : List Stmt) → P (stmt.Choose p cond first second)
  pub repeat_stmt : (p turns q n r : ℕ) (body : List Stmt) → P (stmt.Repeat p turns q n r body)
  pub reply_stmt : (p : ℕ) (values : List Expr) → P (stmt.Answer p values)

module _ (P : Stmt → Type 0) (each : EachKind P) where
  stmt_rolled : (y : Stmt-F ((s : Stmt) × P s)) → P (roll-Stmt (map-Stmt ((s : Stmt) × P s) Stmt (λ s. s.0) y))
  unfolding roll-Stmt denote.Hole.Carrier.roll
  stmt_rolled (Stmt-F.Let n p r) = each.let_stmt n p r
  stmt_rolled (Stmt-F.Assign n p r) = each.assign_stmt n p r
  stmt_rolled (Stmt-F.Perform call) = each.call_stmt call
  stmt_rolled (Stmt-F.Choose p cond first second) = each.choose_stmt p cond _ _
  stmt_rolled (Stmt-F.Repeat p turns q n r body) = each.repeat_stmt p turns q n r _
  stmt_rolled (Stmt-F.Answer p values) = each.reply_stmt p values

  pub stmt_cases : (s : Stmt) → P s
  stmt_cases = ind-Stmt P (λ x y is. subst (λ z. P (roll-Stmt z)) is (stmt_rolled y))
