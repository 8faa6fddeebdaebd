-- The canonical text of a file of handlers. Each text is followed by a given rest.
use Rattle.std.specs.Prelude.{ℕ, zero, suc, ◌+◌, Bool, true, false, if◌then◌else◌, List, [], ◌∷◌, ◌++◌, map, codes, slice_get, unwrap_or}
use Rattle.std.specs.Fmt.{decimal, signed_decimal}
use Rattle.session_values.specs.declared.kind.TableKind.{TableKind}
use Rattle.session_values.specs.declared.kind.TableKind.TheVariants as table_kind
use Rattle.session_values.specs.declared.value.Value.{Value}
use Rattle.session_values.specs.declared.value.Value.TheVariants as value
use Rattle.session_values.specs.Kinds.{word_of}
use Rattle.syntax_trees.specs.declared.expr.Atom.{Atom}
use Rattle.syntax_trees.specs.declared.expr.Atom.TheVariants as atom
use Rattle.syntax_trees.specs.declared.expr.Calc.{Calc}
use Rattle.syntax_trees.specs.declared.expr.Calc.TheVariants as calc
use Rattle.syntax_trees.specs.declared.expr.Expr.{Expr, fold-Expr}
use Rattle.syntax_trees.specs.declared.expr.Expr.TheOpen.{Expr-F}
use Rattle.syntax_trees.specs.declared.stmt.Call.{Call}
use Rattle.syntax_trees.specs.declared.stmt.Compare.{Compare}
use Rattle.syntax_trees.specs.declared.stmt.Compare.TheVariants as compare
use Rattle.syntax_trees.specs.declared.stmt.Cond.{Cond}
use Rattle.syntax_trees.specs.declared.stmt.Right.{Right}
use Rattle.syntax_trees.specs.declared.stmt.Right.TheVariants as right
use Rattle.syntax_trees.specs.declared.stmt.Stmt.{Stmt, fold-Stmt}
use Rattle.syntax_trees.specs.declared.stmt.Stmt.TheOpen.{Stmt-F}
use Rattle.syntax_trees.specs.declared.file.TableDecl.{TableDecl}
use Rattle.syntax_trees.specs.declared.file.Param.{Param}
use Rattle.syntax_trees.specs.declared.file.Handler.{Handler}
use Rattle.syntax_trees.specs.declared.file.File.{File}
use Rattle.syntax_printer.specs.declared.expr.Level.{Level}
use Rattle.syntax_printer.specs.declared.expr.Level.TheVariants as level
use Rattle.syntax_printer.specs.Writing.{Text}

-- ---- lists of texts

-- one text behind the other
abbrev pub each : List Text → Text
each [] rest = rest
each (t ∷ ts) rest = t (each ts rest)

-- a comma and a space before each text
abbrev pub further : List Text → Text
further [] rest = rest
further (t ∷ ts) rest = codes ", " ++ t (further ts rest)

-- a comma and a space between texts
abbrev pub listed : List Text → Text
listed [] rest = rest
listed (t ∷ ts) rest = t (further ts rest)

-- two spaces for each block around the line
abbrev pub indent : ℕ → Text
indent zero rest = rest
indent (suc depth) rest = codes "  " ++ indent depth rest

-- ---- names, literals and calls

-- the text at a place of the list of names
abbrev pub name_text : List (List ℕ) → ℕ → Text
name_text names place rest = unwrap_or (slice_get names place) [] ++ rest

-- `nil`, decimal, or a quote and the symbol's text
abbrev pub literal_text : List (List ℕ) → Value → Text
literal_text names value.Nil rest = codes "nil" ++ rest
literal_text names (value.Num n) rest = signed_decimal n ++ rest
literal_text names (value.Sym place) rest = codes "'" ++ name_text names place rest

abbrev pub atom_text : List (List ℕ) → Atom → Text
atom_text names (atom.Lit v) rest = literal_text names v rest
atom_text names (atom.Name n p) rest = name_text names n rest

-- the operation's word, and in parentheses the table and the arguments
abbrev pub call_text : List (List ℕ) → Call → Text
call_text names call rest =
    word_of call.kind ++ (codes "(" ++ name_text names call.table
    (further (map (atom_text names) call.args) (codes ")" ++ rest)))

-- ---- expressions

-- parentheses stand round a sum that is a term or a factor, and round a product that is a factor
abbrev pub is_bracketed : Level → Calc → Bool
is_bracketed level.Whole c = false
is_bracketed level.Term calc.Times = false
is_bracketed level.Term c = true
is_bracketed level.Factor c = true

abbrev pub opening : Level → Calc → List ℕ
opening l c = if is_bracketed l c then codes "(" else []

abbrev pub closing : Level → Calc → List ℕ
closing l c = if is_bracketed l c then codes ")" else []

-- the left operand of `*` is a term
abbrev pub left_level : Calc → Level
left_level calc.Times = level.Term
left_level c = level.Whole

-- the right operand of `+` and `-` is a term, and that of `*` a factor
abbrev pub right_level : Calc → Level
right_level calc.Times = level.Factor
right_level c = level.Term

-- an operator has a space on either side
abbrev pub operator_text : Calc → List ℕ
operator_text calc.Plus = codes " + "
operator_text calc.Minus = codes " - "
operator_text calc.Times = codes " * "

-- an expression, where the texts of its operands are given
abbrev pub expr_step : List (List ℕ) → Expr-F (Level → Text) → Level → Text
expr_step names (Expr-F.Lit v) l rest = atom_text names (atom.Lit v) rest
expr_step names (Expr-F.Name n p) l rest = atom_text names (atom.Name n p) rest
expr_step names (Expr-F.Binary c sides) l rest =
    opening l c ++ sides.0 (left_level c) (operator_text c ++ sides.1 (right_level c)
    (closing l c ++ rest))

abbrev pub expr_text : List (List ℕ) → Expr → Level → Text
expr_text names = fold-Expr (Level → Text) (expr_step names)

-- an expression that stands alone
abbrev pub whole_text : List (List ℕ) → Expr → Text
whole_text names e = expr_text names e level.Whole

-- a comparison has a space on either side
abbrev pub compare_text : Compare → List ℕ
compare_text compare.Same = codes " == "
compare_text compare.Differ = codes " != "
compare_text compare.Less = codes " < "
compare_text compare.LessOrSame = codes " <= "

abbrev pub cond_text : List (List ℕ) → Cond → Text
cond_text names cond rest = whole_text names cond.left
    (compare_text cond.compare ++ whole_text names cond.right rest)

abbrev pub right_text : List (List ℕ) → Right → Text
right_text names (right.Plain e) rest = whole_text names e rest
right_text names (right.Result call) rest = call_text names call rest

-- ---- statements

-- the lines of a statement, at a depth of blocks
abbrev pub Lines : Type 0
Lines = ℕ → Text

-- the lines of a block's statements
abbrev pub lines_at : ℕ → List Lines → Text
lines_at depth statements rest = each (map (λ (s : Lines). s depth) statements) rest

-- the second block of an `if`, up to its closing brace. Where it is empty there is none
abbrev pub else_lines : ℕ → List Lines → Text
else_lines depth [] rest = rest
else_lines depth (s ∷ more) rest =
    indent depth (codes "} else {\n" ++ lines_at (depth + 1) (s ∷ more) rest)

-- an `if`, where the lines of both blocks are given
abbrev pub choice_text : List (List ℕ) → Cond → List Lines → List Lines → Lines
choice_text names cond first second depth rest =
    codes "if " ++ cond_text names cond (codes " {\n" ++ lines_at (depth + 1) first
    (else_lines depth second (indent depth (codes "}\n" ++ rest))))

-- a `repeat`, where the lines of its block are given
abbrev pub repeat_text : List (List ℕ) → ℕ → ℕ → List Lines → Lines
repeat_text names turns n body depth rest =
    codes "repeat " ++ (decimal turns ++ (codes " as " ++ name_text names n (codes " {\n"
    ++ lines_at (depth + 1) body (indent depth (codes "}\n" ++ rest)))))

-- a name, the right side, and a semicolon
abbrev pub assignment_text : List (List ℕ) → ℕ → Right → Text
assignment_text names n r rest =
    name_text names n (codes " = " ++ right_text names r (codes ";\n" ++ rest))

-- a statement, where the lines of the statements inside are given
abbrev pub stmt_step : List (List ℕ) → Stmt-F Lines → Lines
stmt_step names (Stmt-F.Let n p r) depth rest =
    indent depth (codes "let " ++ assignment_text names n r rest)
stmt_step names (Stmt-F.Assign n p r) depth rest = indent depth (assignment_text names n r rest)
stmt_step names (Stmt-F.Perform call) depth rest =
    indent depth (call_text names call (codes ";\n" ++ rest))
stmt_step names (Stmt-F.Choose p cond first second) depth rest = indent depth
    (choice_text names cond first second depth rest)
stmt_step names (Stmt-F.Repeat p turns q n r body) depth rest = indent depth
    (repeat_text names turns n body depth rest)
stmt_step names (Stmt-F.Answer p values) depth rest =
    indent depth (codes "reply " ++ listed (map (whole_text names) values) (codes ";\n" ++ rest))

abbrev pub stmt_text : List (List ℕ) → Stmt → Lines
stmt_text names = fold-Stmt Lines (stmt_step names)

-- the statements of a block
abbrev pub block_text : List (List ℕ) → List Stmt → Lines
block_text names block depth rest = lines_at depth (map (stmt_text names) block) rest

-- ---- files

abbrev pub table_word : TableKind → List ℕ
table_word table_kind.Map = codes "map "
table_word table_kind.Set = codes "set "

abbrev pub table_text : List (List ℕ) → TableDecl → Text
table_text names t rest = table_word t.kind ++ name_text names t.name (codes ";\n" ++ rest)

abbrev pub param_text : List (List ℕ) → Param → Text
param_text names p rest = name_text names p.name rest

abbrev pub handler_text : List (List ℕ) → Handler → Text
handler_text names h rest =
    codes "handler " ++ name_text names h.name (codes "("
    ++ listed (map (param_text names) h.params) (codes ") {\n"
    ++ block_text names h.body 1 (codes "}\n" ++ rest)))

-- the tables, each on a line, and then the handlers
abbrev pub canonical_text : List (List ℕ) → File → List ℕ
canonical_text names file = each (map (table_text names) file.tables)
    (each (map (handler_text names) file.handlers) [])
