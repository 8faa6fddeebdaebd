-- What setting the places to 0 makes of each kind of node.
use Rattle.std.proofs.Common.{◌≡◌, ℕ, List, map, rules}
use Rattle.syntax_trees.specs.declared.expr.Atom.{Atom}
use Rattle.syntax_trees.specs.declared.expr.Atom.TheVariants as atom
use Rattle.syntax_trees.specs.declared.expr.Calc.{Calc}
use Rattle.syntax_trees.specs.declared.expr.Expr.{Expr}
use Rattle.syntax_trees.specs.declared.expr.Expr as expr_laws
use Rattle.syntax_trees.specs.declared.expr.Expr.TheVariants as expr
use Rattle.syntax_trees.specs.declared.stmt.Call.{Call}
use Rattle.syntax_trees.specs.declared.stmt.Cond.{Cond}
use Rattle.syntax_trees.specs.declared.stmt.Right.{Right}
use Rattle.syntax_trees.specs.declared.stmt.Stmt.{Stmt}
use Rattle.syntax_trees.specs.declared.stmt.Stmt as stmt_laws
use Rattle.syntax_trees.specs.declared.stmt.Stmt.TheVariants as stmt
use Rattle.syntax_trees.specs.Alone.{alone}
use Rattle.handler_syntax.specs.SameTree.{atom_bare, expr_bare, call_bare, right_bare, cond_bare, stmt_bare}

pub bare_leaf : (a : Atom) → expr_bare (alone a) ≡ alone (atom_bare a)
bare_leaf (atom.Lit v) = search (rules, expr_laws.the_lemmas)
bare_leaf (atom.Name n p) = search (rules, expr_laws.the_lemmas)

pub bare_binary : (c : Calc) (l r : Expr) → expr_bare (expr.Binary c (l, r)) ≡ expr.Binary c (expr_bare l, expr_bare r)
bare_binary c l r = search (rules, expr_laws.the_lemmas)

pub bare_let : (n p : ℕ) (r : Right) → stmt_bare (stmt.Let n p r) ≡ stmt.Let n 0 (right_bare r)
bare_let n p r = search (rules, stmt_laws.the_lemmas)

pub bare_assign : (n p : ℕ) (r : Right) → stmt_bare (stmt.Assign n p r) ≡ stmt.Assign n 0 (right_bare r)
bare_assign n p r = search (rules, stmt_laws.the_lemmas)

pub bare_perform : (c : Call) → stmt_bare (stmt.Perform c) ≡ stmt.Perform (call_bare c)
bare_perform c = search (rules, stmt_laws.the_lemmas)

pub bare_choose : (p : ℕ) (c : Cond) (y n : List Stmt) → stmt_bare (stmt.Choose p c y n) ≡ stmt.Choose 0 (cond_bare c) (map stmt_bare y) (map stmt_bare n)
bare_choose p c y n = search (rules, stmt_laws.the_lemmas)

pub bare_repeat : (p t q n r : ℕ) (b : List Stmt) → stmt_bare (stmt.Repeat p t q n r b) ≡ stmt.Repeat 0 t 0 n 0 (map stmt_bare b)
bare_repeat p t q n r b = search (rules, stmt_laws.the_lemmas)

pub bare_answer : (p : ℕ) (es : List Expr) → stmt_bare (stmt.Answer p es) ≡ stmt.Answer 0 (map expr_bare es)
bare_answer p es = search (rules, stmt_laws.the_lemmas)
