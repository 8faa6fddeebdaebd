-- What a rule can be broken at: the names, the operations and the numbers of turns of a text, in
-- its order.
use Rattle.std.specs.Prelude.{ℕ, List, [], ◌∷◌, ◌++◌, length, map}
use Rattle.std.specs.List.{flat_map}
use Rattle.session_values.specs.declared.kind.Kind.{Kind}
use Rattle.syntax_trees.specs.declared.expr.Atom.{Atom}
use Rattle.syntax_trees.specs.declared.expr.Atom.TheVariants as atom
use Rattle.syntax_trees.specs.declared.expr.Expr.{Expr, fold-Expr}
use Rattle.syntax_trees.specs.declared.expr.Expr.TheOpen.{Expr-F}
use Rattle.syntax_trees.specs.declared.stmt.Call.{Call}
use Rattle.syntax_trees.specs.declared.stmt.Cond.{Cond}
use Rattle.syntax_trees.specs.declared.stmt.Right.{Right}
use Rattle.syntax_trees.specs.declared.stmt.Right.TheVariants as right
use Rattle.syntax_trees.specs.declared.file.Handler.{Handler}
use Rattle.syntax_trees.specs.declared.file.Param.{Param}
use Rattle.syntax_trees.specs.declared.file.TableDecl.{TableDecl}
use Rattle.syntax_trees.specs.Source.{Source, Finish, Let, Assign, Do, Choose, Repeat, Answer, block_source}

-- Each has its byte place `at`.
pub data Mark : Type 0 where
  -- a name is declared
  Declared : (name at : ℕ) → Mark
  -- a variable is read or assigned, where the variables with these names are visible
  Mentioned : (name at : ℕ) (visible : List ℕ) → Mark
  -- the word of an operation with so many arguments
  Operation : (kind : Kind) (count at : ℕ) → Mark
  -- the table of an operation
  OnTable : (kind : Kind) (name at : ℕ) → Mark
  -- a number of turns
  Turns : (n at : ℕ) → Mark

abbrev pub mark_at : Mark → ℕ
mark_at (Declared name at) = at
mark_at (Mentioned name at visible) = at
mark_at (Operation kind count at) = at
mark_at (OnTable kind name at) = at
mark_at (Turns n at) = at

-- the same, where the variables with these names are visible too
abbrev pub sees : List ℕ → Mark → Mark
sees names (Declared name at) = Declared name at
sees names (Mentioned name at visible) = Mentioned name at (names ++ visible)
sees names (Operation kind count at) = Operation kind count at
sees names (OnTable kind name at) = OnTable kind name at
sees names (Turns n at) = Turns n at

abbrev pub seeing : List ℕ → List Mark → List Mark
seeing names ms = map (sees names) ms

-- the names that are declared, in their order
abbrev pub declared : List Mark → List ℕ
declared [] = []
declared (Declared name at ∷ ms) = name ∷ declared ms
declared (Mentioned name at visible ∷ ms) = declared ms
declared (Operation kind count at ∷ ms) = declared ms
declared (OnTable kind name at ∷ ms) = declared ms
declared (Turns n at ∷ ms) = declared ms

-- ---- the marks of a text. Those of a block see the block's own variables alone

-- a name that stands for a value is mentioned; a literal is nothing that a rule is on
abbrev pub atom_marks : Atom → List Mark
atom_marks (atom.Lit v) = []
atom_marks (atom.Name name at) = Mentioned name at [] ∷ []

abbrev pub expr_step : Expr-F (List Mark) → List Mark
expr_step (Expr-F.Lit v) = atom_marks (atom.Lit v)
expr_step (Expr-F.Name name at) = atom_marks (atom.Name name at)
expr_step (Expr-F.Binary calc sides) = sides.0 ++ sides.1

-- the names in an expression, from left to right
abbrev pub expr_marks : Expr → List Mark
expr_marks = fold-Expr (List Mark) expr_step

-- an operation, its table, and its arguments
abbrev pub call_marks : Call → List Mark
call_marks c = Operation c.kind (length c.args) c.at ∷ OnTable c.kind c.table c.table_at ∷ flat_map
    atom_marks c.args

-- what a variable is given
abbrev pub right_marks : Right → List Mark
right_marks (right.Plain e) = expr_marks e
right_marks (right.Result c) = call_marks c

-- the two sides of a condition
abbrev pub cond_marks : Cond → List Mark
cond_marks c = expr_marks c.left ++ expr_marks c.right

-- A variable of a `let` is visible behind its statement to the end of its block, a repeat's
-- variable in its block.
abbrev pub marks : Source → List Mark
marks Finish = []
marks (Let n at r rest) = Declared n at ∷ (right_marks r ++ seeing (n ∷ []) (marks rest))
marks (Assign n at r rest) = Mentioned n at [] ∷ (right_marks r ++ marks rest)
marks (Do c rest) = call_marks c ++ marks rest
marks (Choose at c a b rest) = cond_marks c ++ (marks a ++ (marks b ++ marks rest))
marks (Repeat at n n_at name name_at body rest) = Turns n n_at ∷ Declared name
    name_at ∷ (seeing (name ∷ []) (marks body) ++ marks rest)
marks (Answer es rest) = flat_map expr_marks es ++ marks rest

-- the names of parameters are declared
abbrev pub param_marks : List Param → List Mark
param_marks params = map (λ (p : Param). Declared p.name p.at) params

-- the names of parameters
abbrev pub param_names : List Param → List ℕ
param_names params = map (λ (p : Param). p.name) params

-- Parameters are visible in the whole handler.
abbrev pub handler_marks : Handler → List Mark
handler_marks h = param_marks h.params ++ seeing (param_names h.params)
    (marks (block_source h.body))

-- the declarations of the tables, in their order
abbrev pub table_marks : List TableDecl → List Mark
table_marks tables = map (λ (t : TableDecl). Declared t.name t.at) tables

abbrev pub name_marks : List Handler → List Mark
name_marks handlers = map (λ (h : Handler). Declared h.name h.at) handlers
