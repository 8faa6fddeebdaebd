-- The marks of an expression, and the source and the forms of each kind of statement.
use Rattle.std.proofs.Common.{◌≡◌, ℕ, ◌+◌, List, [], ◌∷◌, ◌++◌, length, rules}
use Rattle.syntax_trees.specs.declared.expr.Atom.{Atom}
use Rattle.syntax_trees.specs.declared.expr.Atom.TheVariants as atom
use Rattle.syntax_trees.specs.declared.expr.Calc.{Calc}
use Rattle.syntax_trees.specs.declared.expr.Expr.{Expr, the_lemmas as expr_lemmas}
use Rattle.syntax_trees.specs.declared.expr.Expr.TheVariants as expr
use Rattle.syntax_trees.specs.declared.stmt.Call.{Call}
use Rattle.syntax_trees.specs.declared.stmt.Cond.{Cond}
use Rattle.syntax_trees.specs.declared.stmt.Right.{Right}
use Rattle.syntax_trees.specs.declared.stmt.Stmt.{Stmt, the_lemmas}
use Rattle.syntax_trees.specs.declared.stmt.Stmt.TheVariants as stmt
use Rattle.syntax_trees.specs.Alone.{alone}
use Rattle.syntax_trees.specs.Bounds.{a_call, a_reply, a_nest, right_forms, stmt_forms, block_forms}
use Rattle.syntax_trees.specs.Marks.{atom_marks, expr_marks}
use Rattle.syntax_trees.specs.Source.{Source, Let, Assign, Do, Choose, Repeat, Answer, stmt_source, block_source}

pub marks_leaf : (a : Atom) → expr_marks (alone a) ≡ atom_marks a
marks_leaf (atom.Lit v) = search (rules, expr_lemmas)
marks_leaf (atom.Name n p) = search (rules, expr_lemmas)

pub marks_binary : (c : Calc) (l r : Expr) → expr_marks (expr.Binary c (l, r)) ≡ expr_marks l ++ expr_marks r
marks_binary c l r = search (rules, expr_lemmas)

-- ---- what follows it in its block stands behind it
pub source_let : (n p : ℕ) (r : Right) (rest : Source) → stmt_source (stmt.Let n p r) rest ≡ Let n p r rest
source_let n p r rest = search (rules, the_lemmas)

pub source_assign : (n p : ℕ) (r : Right) (rest : Source) → stmt_source (stmt.Assign n p r) rest ≡ Assign n p r rest
source_assign n p r rest = search (rules, the_lemmas)

pub source_call : (call : Call) (rest : Source) → stmt_source (stmt.Perform call) rest ≡ Do call rest
source_call call rest = search (rules, the_lemmas)

pub source_choose : (p : ℕ) (cond : Cond) (first second : List Stmt) (rest : Source) → stmt_source (stmt.Choose p cond first second) rest ≡ Choose p cond (block_source first) (block_source second) rest
source_choose p cond first second rest = search (rules, the_lemmas)

pub source_repeat : (p turns q n r : ℕ) (body : List Stmt) (rest : Source) → stmt_source (stmt.Repeat p turns q n r body) rest ≡ Repeat p turns q n r (block_source body) rest
source_repeat p turns q n r body rest = search (rules, the_lemmas)

pub source_reply : (p : ℕ) (values : List Expr) (rest : Source) → stmt_source (stmt.Answer p values) rest ≡ Answer values rest
source_reply p values rest = search (rules, the_lemmas)

-- ---- its forms, at a depth
pub forms_let : (n p : ℕ) (r : Right) (d : ℕ) → stmt_forms (stmt.Let n p r) d ≡ right_forms r
forms_let n p r d = search (rules, the_lemmas)

pub forms_assign : (n p : ℕ) (r : Right) (d : ℕ) → stmt_forms (stmt.Assign n p r) d ≡ right_forms r
forms_assign n p r d = search (rules, the_lemmas)

pub forms_perform : (call : Call) (d : ℕ) → stmt_forms (stmt.Perform call) d ≡ a_call (length call.args) ∷ []
forms_perform call d = search (rules, the_lemmas)

pub forms_choose : (p : ℕ) (cond : Cond) (first second : List Stmt) (d : ℕ) → stmt_forms (stmt.Choose p cond first second) d ≡ a_nest d ∷ (block_forms first (d + 1) ++ block_forms second (d + 1))
forms_choose p cond first second d = search (rules, the_lemmas)

pub forms_repeat : (p turns q n r : ℕ) (body : List Stmt) (d : ℕ) → stmt_forms (stmt.Repeat p turns q n r body) d ≡ a_nest d ∷ block_forms body (d + 1)
forms_repeat p turns q n r body d = search (rules, the_lemmas)

pub forms_reply : (p : ℕ) (values : List Expr) (d : ℕ) → stmt_forms (stmt.Answer p values) d ≡ a_reply (length values) ∷ []
forms_reply p values d = search (rules, the_lemmas)
