-- The tree of a block as a plain tree: its first statement and the rest of the block.
use Rattle.std.specs.Prelude.{ℕ, List, [], ◌∷◌, map}
use Rattle.syntax_trees.specs.declared.expr.Expr.{Expr}
use Rattle.syntax_trees.specs.declared.stmt.Call.{Call}
use Rattle.syntax_trees.specs.declared.stmt.Cond.{Cond}
use Rattle.syntax_trees.specs.declared.stmt.Right.{Right}
use Rattle.syntax_trees.specs.declared.stmt.Stmt.{Stmt, fold-Stmt}
use Rattle.syntax_trees.specs.declared.stmt.Stmt.TheOpen.{Stmt-F}

-- each `at` is a byte place
pub data Source : Type 0 where
  Finish : Source
  Let : (name at : ℕ) (r : Right) (rest : Source) → Source
  Assign : (name at : ℕ) (r : Right) (rest : Source) → Source
  Do : (c : Call) (rest : Source) → Source
  Choose : (at : ℕ) (c : Cond) (a b rest : Source) → Source
  Repeat : (at n n_at name name_at : ℕ) (body rest : Source) → Source
  Answer : (es : List Expr) (rest : Source) → Source

-- the statements of a block, each of which is given what follows it
abbrev pub joined : List (Source → Source) → Source
joined [] = Finish
joined (s ∷ ss) = s (joined ss)

-- a statement, where the statements inside are given
abbrev pub stmt_step : Stmt-F (Source → Source) → Source → Source
stmt_step (Stmt-F.Let n at r) rest = Let n at r rest
stmt_step (Stmt-F.Assign n at r) rest = Assign n at r rest
stmt_step (Stmt-F.Perform c) rest = Do c rest
stmt_step (Stmt-F.Choose at c a b) rest = Choose at c (joined a) (joined b) rest
stmt_step (Stmt-F.Repeat at turns turns_at n n_at body) rest = Repeat at turns turns_at n n_at
    (joined body) rest
stmt_step (Stmt-F.Answer at es) rest = Answer es rest

-- a statement, and what follows it in its block
abbrev pub stmt_source : Stmt → Source → Source
stmt_source = fold-Stmt (Source → Source) stmt_step

-- the plain tree of a block with these statements
abbrev pub block_source : List Stmt → Source
block_source stmts = joined (map stmt_source stmts)
