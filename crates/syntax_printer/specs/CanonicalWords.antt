-- The words of a file's canonical text, places aside. Those of each part are followed by the given
-- ones.
use Rattle.std.specs.Prelude.{ℕ, suc, ℤ, pos, negsuc, if◌then◌else◌, List, [], ◌∷◌, map}
use Rattle.session_values.specs.declared.value.Value.{Value}
use Rattle.session_values.specs.declared.value.Value.TheVariants as value
use Rattle.syntax_grammar.specs.declared.word.Sort.{Sort}
use Rattle.syntax_grammar.specs.declared.word.Sort.TheVariants as sort
use Rattle.syntax_trees.specs.declared.expr.Atom.{Atom}
use Rattle.syntax_trees.specs.declared.expr.Atom.TheVariants as atom
use Rattle.syntax_trees.specs.declared.expr.Calc.{Calc}
use Rattle.syntax_trees.specs.declared.expr.Calc.TheVariants as calc
use Rattle.syntax_trees.specs.declared.expr.Expr.{Expr, fold-Expr}
use Rattle.syntax_trees.specs.declared.expr.Expr.TheOpen.{Expr-F}
use Rattle.syntax_trees.specs.declared.stmt.Call.{Call}
use Rattle.syntax_trees.specs.declared.stmt.Cond.{Cond}
use Rattle.syntax_trees.specs.declared.stmt.Right.{Right}
use Rattle.syntax_trees.specs.declared.stmt.Right.TheVariants as right
use Rattle.syntax_trees.specs.declared.stmt.Stmt.{Stmt, fold-Stmt}
use Rattle.syntax_trees.specs.declared.stmt.Stmt.TheOpen.{Stmt-F}
use Rattle.syntax_trees.specs.declared.file.TableDecl.{TableDecl}
use Rattle.syntax_trees.specs.declared.file.Param.{Param}
use Rattle.syntax_trees.specs.declared.file.Handler.{Handler}
use Rattle.syntax_trees.specs.declared.file.File.{File}
use Rattle.syntax_printer.specs.declared.expr.Level.{Level}
use Rattle.syntax_printer.specs.declared.expr.Level.TheVariants as level
use Rattle.syntax_printer.specs.Canonical.{is_bracketed, left_level, right_level}

-- words, followed by others
abbrev pub Sorts : Type 0
Sorts = List Sort → List Sort

-- ---- lists

abbrev pub each_sorts : List Sorts → Sorts
each_sorts [] rest = rest
each_sorts (w ∷ ws) rest = w (each_sorts ws rest)

abbrev pub further_sorts : List Sorts → Sorts
further_sorts [] rest = rest
further_sorts (w ∷ ws) rest = sort.Comma ∷ w (further_sorts ws rest)

abbrev pub listed_sorts : List Sorts → Sorts
listed_sorts [] rest = rest
listed_sorts (w ∷ ws) rest = w (further_sorts ws rest)

-- ---- single words

abbrev pub calc_sort : Calc → Sort
calc_sort calc.Plus = sort.Plus
calc_sort calc.Minus = sort.Minus
calc_sort calc.Times = sort.Times

-- ---- literals, calls and expressions

abbrev pub number_sorts : ℤ → Sorts
number_sorts (pos n) rest = sort.Number n ∷ rest
number_sorts (negsuc n) rest = sort.Minus ∷ sort.Number (suc n) ∷ rest

abbrev pub literal_sorts : Value → Sorts
literal_sorts value.Nil rest = sort.Nil ∷ rest
literal_sorts (value.Num z) rest = number_sorts z rest
literal_sorts (value.Sym place) rest = sort.Symbol place ∷ rest

abbrev pub atom_sorts : Atom → Sorts
atom_sorts (atom.Lit v) rest = literal_sorts v rest
atom_sorts (atom.Name n p) rest = sort.Name n ∷ rest

abbrev pub call_sorts : Call → Sorts
call_sorts call rest = sort.Do call.kind ∷ sort.LeftParen ∷ sort.Name call.table ∷ further_sorts
    (map atom_sorts call.args) (sort.RightParen ∷ rest)

abbrev pub opening_sorts : Level → Calc → Sorts
opening_sorts l c rest = if is_bracketed l c then sort.LeftParen ∷ rest else rest

abbrev pub closing_sorts : Level → Calc → Sorts
closing_sorts l c rest = if is_bracketed l c then sort.RightParen ∷ rest else rest

abbrev pub expr_sorts_step : Expr-F (Level → Sorts) → Level → Sorts
expr_sorts_step (Expr-F.Lit v) l rest = atom_sorts (atom.Lit v) rest
expr_sorts_step (Expr-F.Name n p) l rest = atom_sorts (atom.Name n p) rest
expr_sorts_step (Expr-F.Binary c sides) l rest =
    opening_sorts l c (sides.0 (left_level c) (calc_sort c ∷ sides.1 (right_level c)
    (closing_sorts l c rest)))

abbrev pub expr_sorts : Expr → Level → Sorts
expr_sorts = fold-Expr (Level → Sorts) expr_sorts_step

abbrev pub whole_sorts : Expr → Sorts
whole_sorts e = expr_sorts e level.Whole

abbrev pub cond_sorts : Cond → Sorts
cond_sorts cond rest = whole_sorts cond.left (sort.Compare cond.compare ∷ whole_sorts cond.right
    rest)

abbrev pub right_sorts : Right → Sorts
right_sorts (right.Plain e) rest = whole_sorts e rest
right_sorts (right.Result call) rest = call_sorts call rest

-- ---- statements

abbrev pub assignment_sorts : ℕ → Right → Sorts
assignment_sorts n r rest = sort.Name n ∷ sort.Assign ∷ right_sorts r (sort.Semicolon ∷ rest)

abbrev pub else_sorts : List Sorts → Sorts
else_sorts [] rest = rest
else_sorts (w ∷ ws) rest = sort.RightBrace ∷ sort.Else ∷ sort.LeftBrace ∷ each_sorts (w ∷ ws) rest

abbrev pub choice_sorts : Cond → List Sorts → List Sorts → Sorts
choice_sorts cond first second rest = sort.If ∷ cond_sorts cond
    (sort.LeftBrace ∷ each_sorts first (else_sorts second (sort.RightBrace ∷ rest)))

abbrev pub repeat_sorts : ℕ → ℕ → List Sorts → Sorts
repeat_sorts turns n body rest = sort.Repeat ∷ sort.Number turns ∷ sort.As ∷ sort.Name
    n ∷ sort.LeftBrace ∷ each_sorts body (sort.RightBrace ∷ rest)

abbrev pub stmt_sorts_step : Stmt-F Sorts → Sorts
stmt_sorts_step (Stmt-F.Let n p r) rest = sort.Let ∷ assignment_sorts n r rest
stmt_sorts_step (Stmt-F.Assign n p r) rest = assignment_sorts n r rest
stmt_sorts_step (Stmt-F.Perform call) rest = call_sorts call (sort.Semicolon ∷ rest)
stmt_sorts_step (Stmt-F.Choose p cond first second) rest = choice_sorts cond first second rest
stmt_sorts_step (Stmt-F.Repeat p turns q n r body) rest = repeat_sorts turns n body rest
stmt_sorts_step (Stmt-F.Answer p values) rest = sort.Reply ∷ listed_sorts (map whole_sorts values)
    (sort.Semicolon ∷ rest)

abbrev pub stmt_sorts : Stmt → Sorts
stmt_sorts = fold-Stmt Sorts stmt_sorts_step

abbrev pub block_sorts : List Stmt → Sorts
block_sorts block rest = each_sorts (map stmt_sorts block) rest

-- ---- files

abbrev pub table_sorts : TableDecl → Sorts
table_sorts t rest = sort.Table t.kind ∷ sort.Name t.name ∷ sort.Semicolon ∷ rest

abbrev pub param_sorts : Param → Sorts
param_sorts p rest = sort.Name p.name ∷ rest

abbrev pub handler_sorts : Handler → Sorts
handler_sorts h rest =
    sort.Handler ∷ sort.Name h.name ∷ sort.LeftParen ∷ listed_sorts (map param_sorts h.params)
    (sort.RightParen ∷ sort.LeftBrace ∷ block_sorts h.body (sort.RightBrace ∷ rest))

-- the words of a file's canonical text: of its tables, then of its handlers
abbrev pub canonical_words : File → List Sort
canonical_words file = each_sorts (map table_sorts file.tables)
    (each_sorts (map handler_sorts file.handlers) [])
