-- The names, symbols and numbers that stand in a tree, in order.
use Rattle.std.specs.Prelude.{ℕ, ℤ, pos, ◌<◌, List, [], ◌∷◌, ◌++◌, length}
use Rattle.std.specs.List.{AllByRecursion, flat_map}
use Rattle.session_values.specs.declared.value.Value.{Value}
use Rattle.session_values.specs.declared.value.Value.TheVariants as value
use Rattle.syntax_trees.specs.declared.expr.Atom.{Atom}
use Rattle.syntax_trees.specs.declared.expr.Atom.TheVariants as atom
use Rattle.syntax_trees.specs.declared.expr.Expr.{Expr, fold-Expr}
use Rattle.syntax_trees.specs.declared.expr.Expr.TheOpen.{Expr-F}
use Rattle.syntax_trees.specs.declared.stmt.Call.{Call}
use Rattle.syntax_trees.specs.declared.stmt.Cond.{Cond}
use Rattle.syntax_trees.specs.declared.stmt.Right.{Right}
use Rattle.syntax_trees.specs.declared.stmt.Right.TheVariants as right
use Rattle.syntax_trees.specs.declared.stmt.Stmt.{Stmt, fold-Stmt}
use Rattle.syntax_trees.specs.declared.stmt.Stmt.TheOpen.{Stmt-F}
use Rattle.syntax_trees.specs.declared.file.TableDecl.{TableDecl}
use Rattle.syntax_trees.specs.declared.file.Param.{Param}
use Rattle.syntax_trees.specs.declared.file.Handler.{Handler}
use Rattle.syntax_trees.specs.declared.file.File.{File}

-- a name or a symbol, by the place of its text in the list of names, or a number
pub data Mention : Type 0 where
  a_name : ℕ → Mention
  a_symbol : ℕ → Mention
  a_number : ℤ → Mention

abbrev pub value_mentions : Value → List Mention
value_mentions value.Nil = []
value_mentions (value.Num z) = a_number z ∷ []
value_mentions (value.Sym place) = a_symbol place ∷ []

abbrev pub atom_mentions : Atom → List Mention
atom_mentions (atom.Lit v) = value_mentions v
atom_mentions (atom.Name n p) = a_name n ∷ []

-- those of an operand, or of both operands
abbrev pub expr_step : Expr-F (List Mention) → List Mention
expr_step (Expr-F.Lit v) = value_mentions v
expr_step (Expr-F.Name n p) = a_name n ∷ []
expr_step (Expr-F.Binary c sides) = sides.0 ++ sides.1

abbrev pub expr_mentions : Expr → List Mention
expr_mentions = fold-Expr (List Mention) expr_step

abbrev pub call_mentions : Call → List Mention
call_mentions call = a_name call.table ∷ flat_map atom_mentions call.args

abbrev pub right_mentions : Right → List Mention
right_mentions (right.Plain e) = expr_mentions e
right_mentions (right.Result call) = call_mentions call

abbrev pub cond_mentions : Cond → List Mention
cond_mentions cond = expr_mentions cond.left ++ expr_mentions cond.right

-- those of each statement, in order
abbrev pub joined : List (List Mention) → List Mention
joined mentions = flat_map (λ m. m) mentions

-- those of a statement, where those of the statements inside are given
abbrev pub stmt_step : Stmt-F (List Mention) → List Mention
stmt_step (Stmt-F.Let n p r) = a_name n ∷ right_mentions r
stmt_step (Stmt-F.Assign n p r) = a_name n ∷ right_mentions r
stmt_step (Stmt-F.Perform call) = call_mentions call
stmt_step (Stmt-F.Choose p cond first second) = cond_mentions
    cond ++ (joined first ++ joined second)
stmt_step (Stmt-F.Repeat p turns q n r body) = a_number (pos turns) ∷ a_name n ∷ joined body
stmt_step (Stmt-F.Answer p values) = flat_map expr_mentions values

abbrev pub stmt_mentions : Stmt → List Mention
stmt_mentions = fold-Stmt (List Mention) stmt_step

abbrev pub table_mentions : TableDecl → List Mention
table_mentions t = a_name t.name ∷ []

abbrev pub param_mentions : Param → List Mention
param_mentions p = a_name p.name ∷ []

abbrev pub handler_mentions : Handler → List Mention
handler_mentions h = a_name h.name ∷ (flat_map param_mentions h.params ++ flat_map stmt_mentions
    h.body)

-- those of a file: of its tables, then of its handlers
abbrev pub file_mentions : File → List Mention
file_mentions file = flat_map table_mentions file.tables ++ flat_map handler_mentions file.handlers

-- the place of a name or a symbol is below a count
abbrev pub IsBelow : ℕ → Mention → Type 0
IsBelow count (a_name place) = place < count
IsBelow count (a_symbol place) = place < count
IsBelow count (a_number z) = Unit {0}

-- the place of each name and each symbol is below a count
abbrev pub AreBelow : ℕ → List Mention → Type 0
AreBelow count mentions = AllByRecursion (IsBelow count) mentions

-- each place is one of the list of names
abbrev pub AreNamed : List (List ℕ) → List Mention → Type 0
AreNamed names mentions = AreBelow (length names) mentions
