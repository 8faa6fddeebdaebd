-- The resolved handlers of a file: each name is the number of its declaration, and points are
-- counted in the order of the text.
use Rattle.std.specs.Prelude.{◌≡◌, ℕ, suc, ◌+◌, ◌<◌, ◌==◌, if◌then◌else◌, List, [], ◌∷◌, length, map, slice_get, Option, Some, None}
use Rattle.std.specs.List.{Contains}
use Rattle.session_values.specs.declared.value.Value.TheVariants.{Nil}
use Rattle.session_values.specs.declared.kind.Kind.{Kind}
use Rattle.session_values.specs.declared.kind.TableKind.{TableKind}
use Rattle.session_values.specs.Kinds.{home}
use Rattle.syntax_trees.specs.declared.expr.Atom.{Atom as Named}
use Rattle.syntax_trees.specs.declared.expr.Atom.TheVariants as named
use Rattle.syntax_trees.specs.declared.expr.Expr.{Expr, fold-Expr}
use Rattle.syntax_trees.specs.declared.expr.Expr.TheOpen.{Expr-F}
use Rattle.syntax_trees.specs.declared.stmt.Call.{Call}
use Rattle.syntax_trees.specs.declared.stmt.Cond.{Cond}
use Rattle.syntax_trees.specs.declared.stmt.Right.{Right}
use Rattle.syntax_trees.specs.declared.stmt.Right.TheVariants as right
use Rattle.syntax_trees.specs.declared.file.File.{File}
use Rattle.syntax_trees.specs.declared.file.Handler.{Handler}
use Rattle.syntax_trees.specs.declared.file.TableDecl.{TableDecl}
use Rattle.syntax_trees.specs.Marks.{Mark, declared, handler_marks}
use Rattle.syntax_trees.specs.Source.{Source, Finish, Let, Assign, Do, Choose, Repeat, Answer, block_source}
use Rattle.check_meaning.specs.declared.tree.CheckedAtom.{CheckedAtom}
use Rattle.check_meaning.specs.declared.tree.CheckedAtom.TheVariants.{Lit, Var}
use Rattle.check_meaning.specs.declared.tree.CheckedCall.{CheckedCall}
use Rattle.check_meaning.specs.declared.tree.CheckedHandler.{CheckedHandler}
use Rattle.check_meaning.specs.Code as code

-- the number of a name's first declaration, or the number of declarations where there is none
abbrev pub number_in : List ℕ → ℕ → ℕ
number_in [] name = 0
number_in (n ∷ ns) name = if n == name then 0 else suc (number_in ns name)

-- an atom, where the variables of its handler have these names
abbrev pub atom_of : List ℕ → Named → CheckedAtom
atom_of variables (named.Lit v) = Lit v
atom_of variables (named.Name name at) = Var (number_in variables name)

abbrev pub term_step : List ℕ → Expr-F code.Term → code.Term
term_step variables (Expr-F.Lit v) = code.Atom (atom_of variables (named.Lit v))
term_step variables (Expr-F.Name name at) = code.Atom (atom_of variables (named.Name name at))
term_step variables (Expr-F.Binary calc sides) = code.Calculate calc sides.0 sides.1

-- an expression, whose names are the numbers of variables
abbrev pub term_of : List ℕ → Expr → code.Term
term_of variables = fold-Expr code.Term (term_step variables)

-- a condition
abbrev pub test_of : List ℕ → Cond → code.Test
test_of variables c = record {
  compare = c.compare;
  left = term_of variables c.left;
  right = term_of variables c.right;
}

-- a call's first and second argument, each nil where there is none
abbrev pub key_of : List ℕ → List Named → CheckedAtom
key_of variables [] = Lit Nil
key_of variables (a ∷ more) = atom_of variables a

-- the second argument
abbrev pub value_of : List ℕ → List Named → CheckedAtom
value_of variables [] = Lit Nil
value_of variables (a ∷ []) = Lit Nil
value_of variables (a ∷ b ∷ more) = atom_of variables b

-- an operation, whose table has its number
abbrev pub call_of : List ℕ → List ℕ → Call → CheckedCall
call_of tables variables c = record {
  kind = c.kind;
  table = number_in tables c.table;
  key = key_of variables c.args;
  value = value_of variables c.args;
}

-- ---- points
abbrev pub right_points : Right → ℕ
right_points (right.Plain e) = 0
right_points (right.Result c) = 1

-- how many points a block has
abbrev pub points_of : Source → ℕ
points_of Finish = 0
points_of (Let n at r rest) = right_points r + points_of rest
points_of (Assign n at r rest) = right_points r + points_of rest
points_of (Do c rest) = 1 + points_of rest
points_of (Choose at c a b rest) = 2 + points_of a + points_of b + points_of rest
points_of (Repeat at n n_at name name_at body rest) = points_of body + 1 + points_of rest
points_of (Answer es rest) = points_of rest

-- ---- blocks

-- a variable that is given its right side, whose point has this number if it has one
abbrev pub stored : List ℕ → List ℕ → ℕ → Right → ℕ → code.Code → code.Code
stored tables variables name (right.Plain e) p rest = code.Move (number_in variables name)
    (term_of variables e) rest
stored tables variables name (right.Result c) p rest = code.Ask c.at p
    (Some (number_in variables name)) (call_of tables variables c) rest

-- a block whose points are counted from this number
abbrev pub code_of : List ℕ → List ℕ → Source → ℕ → code.Code
code_of tables variables Finish p = code.Finish
code_of tables variables (Let n at r rest) p = stored tables variables n r p
    (code_of tables variables rest (p + right_points r))
code_of tables variables (Assign n at r rest) p = stored tables variables n r p
    (code_of tables variables rest (p + right_points r))
code_of tables variables (Do c rest) p = code.Ask c.at p None (call_of tables variables c)
    (code_of tables variables rest (p + 1))
code_of tables variables (Choose at c a b rest) p =
    code.Fork at p (p + 1 + points_of a) (test_of variables c) (code_of tables variables a (p + 1))
    (code_of tables variables b (p + 2 + points_of a))
    (code_of tables variables rest (p + 2 + points_of a + points_of b))
code_of tables variables (Repeat at n n_at name name_at body rest) p =
    code.Loop at (p + points_of body) n (number_in variables name)
    (code_of tables variables body p) (code_of tables variables rest (p + points_of body + 1))
code_of tables variables (Answer es rest) p = code.Quit (map (term_of variables) es)
    (code_of tables variables rest p)

-- ---- files

-- the kinds of the tables
abbrev pub shape_of : File → List TableKind
shape_of f = map (λ (t : TableDecl). t.kind) f.tables

-- the names of the tables, by their numbers
abbrev pub table_names : File → List ℕ
table_names f = map (λ (t : TableDecl). t.name) f.tables

-- the names of a handler's variables, by their numbers
abbrev pub variables_of : Handler → List ℕ
variables_of h = declared (handler_marks h)

-- a handler's block; its entry is point 0
abbrev pub handler_code : File → Handler → code.Code
handler_code f h = code_of (table_names f) (variables_of h) (block_source h.body) 1

-- the code of a handler, and an empty block where there is none
abbrev pub code_in : File → Option Handler → code.Code
code_in f None = code.Finish
code_in f (Some h) = handler_code f h

-- the code of the handler of this number
abbrev pub code_at : File → ℕ → code.Code
code_at f h = code_in f (slice_get f.handlers h)

abbrev pub params_in : Option Handler → ℕ
params_in None = 0
params_in (Some h) = length h.params

-- how many parameters the handler of this number has
abbrev pub params_at : File → ℕ → ℕ
params_at f h = params_in (slice_get f.handlers h)

abbrev pub variables_in : Option Handler → List ℕ
variables_in None = []
variables_in (Some h) = variables_of h

-- the names of the variables of the handler of this number, by theirs
abbrev pub variables_at : File → ℕ → List ℕ
variables_at f h = variables_in (slice_get f.handlers h)

-- ---- what a name stands for

-- x is the number of the one variable of this name, which is declared among the marks before, and
-- visible
pub record StandsFor (h : Handler) (before : List Mark) (seen : List ℕ) (name x : ℕ) : Type 0 where
  pub named : slice_get (variables_of h) x ≡ Some name
  pub only : (y : ℕ) → slice_get (variables_of h) y ≡ Some name → y ≡ x
  pub earlier : x < length (declared before)
  pub visible : Contains seen name

-- x is the number of the one table of this name, which is of the operation's kind
pub record StandsForTable (f : File) (kind : Kind) (name x : ℕ) : Type 0 where
  pub named : slice_get (table_names f) x ≡ Some name
  pub only : (y : ℕ) → slice_get (table_names f) y ≡ Some name → y ≡ x
  pub fit : slice_get (shape_of f) x ≡ Some (home kind)

-- ---- resolved handlers

-- a handler as the program holds it, where the tables have these names
pub record IsResolved (tables : List ℕ) (h : Handler) (c : CheckedHandler) : Type 0 where
  pub name : c.name ≡ h.name
  pub at : c.at ≡ h.at
  pub params : c.params ≡ length h.params
  pub points : c.points ≡ 1 + points_of (block_source h.body)
  pub variables : c.variables ≡ variables_of h
  pub body : code.block_code c.body ≡ code_of tables (variables_of h) (block_source h.body) 1
