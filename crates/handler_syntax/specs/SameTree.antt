-- Trees of files, places aside.
use Rattle.std.specs.Prelude.{◌≡◌, map}
use Rattle.syntax_trees.specs.declared.expr.Atom.{Atom}
use Rattle.syntax_trees.specs.declared.expr.Atom.TheVariants as atom
use Rattle.syntax_trees.specs.declared.expr.Expr.{Expr, fold-Expr}
use Rattle.syntax_trees.specs.declared.expr.Expr.TheOpen.{Expr-F}
use Rattle.syntax_trees.specs.declared.expr.Expr.TheVariants as expr
use Rattle.syntax_trees.specs.declared.stmt.Call.{Call}
use Rattle.syntax_trees.specs.declared.stmt.Cond.{Cond}
use Rattle.syntax_trees.specs.declared.stmt.Right.{Right}
use Rattle.syntax_trees.specs.declared.stmt.Right.TheVariants as right
use Rattle.syntax_trees.specs.declared.stmt.Stmt.{Stmt, fold-Stmt}
use Rattle.syntax_trees.specs.declared.stmt.Stmt.TheOpen.{Stmt-F}
use Rattle.syntax_trees.specs.declared.stmt.Stmt.TheVariants as stmt
use Rattle.syntax_trees.specs.declared.file.TableDecl.{TableDecl}
use Rattle.syntax_trees.specs.declared.file.Param.{Param}
use Rattle.syntax_trees.specs.declared.file.Handler.{Handler}
use Rattle.syntax_trees.specs.declared.file.File.{File}

-- ---- the tree with each place set to 0

abbrev pub atom_bare : Atom → Atom
atom_bare (atom.Lit v) = atom.Lit v
atom_bare (atom.Name n p) = atom.Name n 0

-- an expression, where its operands are bare
abbrev pub expr_step : Expr-F Expr → Expr
expr_step (Expr-F.Lit v) = expr.Lit v
expr_step (Expr-F.Name n p) = expr.Name n 0
expr_step (Expr-F.Binary c sides) = expr.Binary c sides

abbrev pub expr_bare : Expr → Expr
expr_bare = fold-Expr Expr expr_step

abbrev pub call_bare : Call → Call
call_bare call = record {
  kind = call.kind;
  at = 0;
  table = call.table;
  table_at = 0;
  args = map atom_bare call.args;
}

abbrev pub right_bare : Right → Right
right_bare (right.Plain e) = right.Plain (expr_bare e)
right_bare (right.Result call) = right.Result (call_bare call)

abbrev pub cond_bare : Cond → Cond
cond_bare cond = record {
  compare = cond.compare;
  left = expr_bare cond.left;
  right = expr_bare cond.right;
}

-- a statement, where the statements inside are bare
abbrev pub stmt_step : Stmt-F Stmt → Stmt
stmt_step (Stmt-F.Let n p r) = stmt.Let n 0 (right_bare r)
stmt_step (Stmt-F.Assign n p r) = stmt.Assign n 0 (right_bare r)
stmt_step (Stmt-F.Perform call) = stmt.Perform (call_bare call)
stmt_step (Stmt-F.Choose p cond first second) = stmt.Choose 0 (cond_bare cond) first second
stmt_step (Stmt-F.Repeat p turns q n r body) = stmt.Repeat 0 turns 0 n 0 body
stmt_step (Stmt-F.Answer p values) = stmt.Answer 0 (map expr_bare values)

abbrev pub stmt_bare : Stmt → Stmt
stmt_bare = fold-Stmt Stmt stmt_step

abbrev pub table_bare : TableDecl → TableDecl
table_bare t = record { kind = t.kind; name = t.name; at = 0 }

abbrev pub param_bare : Param → Param
param_bare p = record { name = p.name; at = 0 }

abbrev pub handler_bare : Handler → Handler
handler_bare h = record {
  name = h.name;
  at = 0;
  params = map param_bare h.params;
  body = map stmt_bare h.body;
}

abbrev pub file_bare : File → File
file_bare file = record {
  tables = map table_bare file.tables;
  handlers = map handler_bare file.handlers;
}

-- the same tree, places aside
abbrev pub SameTree : File → File → Type 0
SameTree f g = file_bare f ≡ file_bare g
