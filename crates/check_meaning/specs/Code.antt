-- The resolved tree as a plain tree: a block is its first statement and the rest of the block.
use Rattle.std.specs.Prelude.{◌≡◌, ℕ, ◌+◌, List, [], ◌∷◌, map, Option}
use Rattle.syntax_trees.specs.declared.expr.Calc.{Calc}
use Rattle.syntax_trees.specs.declared.stmt.Compare.{Compare}
use Rattle.check_meaning.specs.declared.tree.CheckedAtom.{CheckedAtom}
use Rattle.check_meaning.specs.declared.tree.CheckedCall.{CheckedCall}
use Rattle.check_meaning.specs.declared.tree.CheckedCond.{CheckedCond}
use Rattle.check_meaning.specs.declared.tree.CheckedExpr.{CheckedExpr, fold-CheckedExpr}
use Rattle.check_meaning.specs.declared.tree.CheckedExpr.TheOpen.{CheckedExpr-F}
use Rattle.check_meaning.specs.declared.tree.CheckedStmt.{CheckedStmt, fold-CheckedStmt}
use Rattle.check_meaning.specs.declared.tree.CheckedStmt.TheOpen.{CheckedStmt-F}

-- an expression
pub data Term : Type 0 where
  Atom : CheckedAtom → Term
  Calculate : Calc → Term → Term → Term

-- a condition
pub record Test : Type 0 where
  pub compare : Compare
  pub left : Term
  pub right : Term

-- A block. Each `at` is a byte place; a point's number stands where the point is: behind an
-- operation, at the start of either side of a choice, and behind a loop.
pub data Code : Type 0 where
  Finish : Code
  Move : (x : ℕ) (e : Term) (rest : Code) → Code
  Ask : (at p : ℕ) (x : Option ℕ) (c : CheckedCall) (rest : Code) → Code
  Fork : (at p q : ℕ) (test : Test) (a b rest : Code) → Code
  Loop : (at p n x : ℕ) (body rest : Code) → Code
  Quit : (es : List Term) (rest : Code) → Code

-- ---- the tree that the program holds, as such a tree
abbrev pub expr_step : CheckedExpr-F Term → Term
expr_step (CheckedExpr-F.Leaf a) = Atom a
expr_step (CheckedExpr-F.Binary calc l r) = Calculate calc l r

-- an expression
abbrev pub expr_term : CheckedExpr → Term
expr_term = fold-CheckedExpr Term expr_step

-- a condition
abbrev pub cond_test : CheckedCond → Test
cond_test c = record { compare = c.compare; left = expr_term c.left; right = expr_term c.right }

-- the statements of a block, each of which is given what follows it
abbrev pub joined : List (Code → Code) → Code
joined [] = Finish
joined (s ∷ ss) = s (joined ss)

-- a statement, where the statements inside are given
abbrev pub stmt_step : CheckedStmt-F (Code → Code) → Code → Code
stmt_step (CheckedStmt-F.Store x e) rest = Move x (expr_term e) rest
stmt_step (CheckedStmt-F.Perform at p x c) rest = Ask at p x c rest
stmt_step (CheckedStmt-F.Choose at p q c a b) rest = Fork at p q (cond_test c) (joined a)
    (joined b) rest
stmt_step (CheckedStmt-F.Repeat at p n x body) rest = Loop at p n x (joined body) rest
stmt_step (CheckedStmt-F.Answer es) rest = Quit (map expr_term es) rest

-- a statement, and what follows it in its block
abbrev pub stmt_code : CheckedStmt → Code → Code
stmt_code = fold-CheckedStmt (Code → Code) stmt_step

-- the plain tree of a block with these statements
abbrev pub block_code : List CheckedStmt → Code
block_code stmts = joined (map stmt_code stmts)

-- ---- points

-- the number of points in a block
abbrev pub points : Code → ℕ
points Finish = 0
points (Move x e rest) = points rest
points (Ask at p x c rest) = 1 + points rest
points (Fork at p q test a b rest) = 2 + points a + points b + points rest
points (Loop at p n x body rest) = points body + 1 + points rest
points (Quit es rest) = points rest

-- the points of a block are numbered in the order of the text, from this number on
abbrev pub IsNumbered : Code → ℕ → Type 0
IsNumbered Finish i = Unit {0}
IsNumbered (Move x e rest) i = IsNumbered rest i
IsNumbered (Ask at p x c rest) i = (p ≡ i) × IsNumbered rest (i + 1)
IsNumbered (Fork at p q test a b rest) i =
    (p ≡ i) × IsNumbered a (i + 1) × (q ≡ i + 1 + points a) × IsNumbered b (i + 2 + points a)
    × IsNumbered rest (i + 2 + points a + points b)
IsNumbered (Loop at p n x body rest) i = IsNumbered body i × (p ≡ i + points body)
    × IsNumbered rest (i + points body + 1)
IsNumbered (Quit es rest) i = IsNumbered rest i
