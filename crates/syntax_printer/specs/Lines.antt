-- The lines of a file's text, with those that stand at the points of its handlers. Points are
-- counted in the order of the text.
use Rattle.std.specs.Prelude.{ℕ, zero, suc, ◌+◌, Bool, true, false, List, [], ◌∷◌, ◌++◌, map, codes}
use Rattle.std.specs.Fmt.{decimal}
use Rattle.syntax_trees.specs.declared.expr.Expr.{Expr}
use Rattle.syntax_trees.specs.declared.stmt.Call.{Call}
use Rattle.syntax_trees.specs.declared.stmt.Cond.{Cond}
use Rattle.syntax_trees.specs.declared.stmt.Right.{Right}
use Rattle.syntax_trees.specs.declared.stmt.Right.TheVariants as right
use Rattle.syntax_trees.specs.declared.stmt.Stmt.{Stmt, fold-Stmt}
use Rattle.syntax_trees.specs.declared.stmt.Stmt.TheOpen.{Stmt-F}
use Rattle.syntax_trees.specs.declared.file.TableDecl.{TableDecl}
use Rattle.syntax_trees.specs.declared.file.Handler.{Handler}
use Rattle.syntax_trees.specs.declared.file.File.{File}
use Rattle.syntax_printer.specs.Canonical.{assignment_text, call_text, cond_text, each, indent, listed, name_text, param_text, table_text, whole_text}
use Rattle.syntax_printer.specs.Points.{AtPoints, point_text}
use Rattle.syntax_printer.specs.Writing.{Text}

-- Whose line it is: the file's own, which its canonical text has too; the else part's of an `if`
-- whose second block is empty; that of the point of this number.
pub data Line : Type 0 where
  of_file : Text → Line
  of_else : Text → Line
  of_point : (point : ℕ) → Text → Line

-- A line is written. Where points have no lines, that of an empty else part isn't either.
abbrev pub line_text : Bool → Line → Text
line_text shown (of_file t) rest = t rest
line_text true (of_else t) rest = t rest
line_text false (of_else t) rest = rest
line_text true (of_point n t) rest = t rest
line_text false (of_point n t) rest = rest

-- lines are written one after another; where points have no lines, the file's own alone
abbrev pub written : Bool → List Line → Text
written shown lines rest = each (map (line_text shown) lines) rest

-- a line inside so many blocks
abbrev pub indented : ℕ → Text → Text
indented depth t rest = indent depth (t rest)

abbrev pub own_line : ℕ → Text → Line
own_line depth t = of_file (indented depth t)

-- ---- statements

-- what stands at the points of a handler: the line inside so many blocks, at the point of this
-- number
abbrev pub At : Type 0
At = (depth point : ℕ) → Text

abbrev pub point_line : At → (depth point : ℕ) → Line
point_line at depth point = of_point point (at depth point)

-- a statement: how many points it has, and its lines inside so many blocks, where its first point
-- has this number
pub record Part : Type 0 where
  pub points : ℕ
  pub lines : (depth point : ℕ) → List Line

-- how many points the statements of a block have together
abbrev pub block_points : List Part → ℕ
block_points [] = 0
block_points (p ∷ ps) = p.points + block_points ps

abbrev pub block_lines : List Part → (depth point : ℕ) → List Line
block_lines [] depth point = []
block_lines (p ∷ ps) depth point = p.lines depth point ++ block_lines ps depth (point + p.points)

-- a block of a statement inside so many blocks, with the point at its start
abbrev pub branch_lines : At → List Part → (depth point : ℕ) → List Line
branch_lines at block depth point = point_line at (depth + 1) point ∷ block_lines block (depth + 1)
    (point + 1)

abbrev pub close_text : Text
close_text rest = codes "}\n" ++ rest

abbrev pub close_line : ℕ → Line
close_line depth = own_line depth close_text

-- an operation's point stands behind its statement
abbrev pub right_points : Right → ℕ
right_points (right.Plain e) = 0
right_points (right.Result call) = 1

abbrev pub right_lines : At → Right → (depth point : ℕ) → List Line
right_lines at (right.Plain e) depth point = []
right_lines at (right.Result call) depth point = point_line at depth point ∷ []

abbrev pub let_text : List (List ℕ) → ℕ → Right → Text
let_text names n r rest = codes "let " ++ assignment_text names n r rest

abbrev pub call_line_text : List (List ℕ) → Call → Text
call_line_text names call rest = call_text names call (codes ";\n" ++ rest)

abbrev pub reply_text : List (List ℕ) → List Expr → Text
reply_text names values rest =
    codes "reply " ++ listed (map (whole_text names) values) (codes ";\n" ++ rest)

abbrev pub if_text : List (List ℕ) → Cond → Text
if_text names cond rest = codes "if " ++ cond_text names cond (codes " {\n" ++ rest)

abbrev pub else_text : Text
else_text rest = codes "} else {\n" ++ rest

abbrev pub repeat_head_text : List (List ℕ) → (turns name : ℕ) → Text
repeat_head_text names turns n rest =
    codes "repeat " ++ (decimal turns ++ (codes " as " ++ name_text names n (codes " {\n" ++ rest)))

-- the line that opens the second block
abbrev pub else_line : List Part → ℕ → Line
else_line [] depth = of_else (indented depth else_text)
else_line (p ∷ ps) depth = own_line depth else_text

abbrev pub choice_part : List (List ℕ) → At → Cond → List Part → List Part → Part
choice_part names at cond first second = record {
  points = 1 + block_points first + (1 + block_points second);
  lines = λ depth point.
      own_line depth (if_text names cond)
      ∷ (branch_lines at first depth point ++ (else_line second
      depth ∷ (branch_lines at second depth
      (point + (1 + block_points first)) ++ (close_line depth ∷ []))));
}

-- the point of a `repeat` stands behind it
abbrev pub repeat_part : List (List ℕ) → At → (turns name : ℕ) → List Part → Part
repeat_part names at turns n body = record {
  points = block_points body + 1;
  lines = λ depth point.
      own_line depth (repeat_head_text names turns n)
      ∷ (block_lines body (depth + 1) point ++ (close_line depth ∷ point_line at depth
      (point + block_points body) ∷ []));
}

-- a statement, where the statements inside are given
abbrev pub stmt_step : List (List ℕ) → At → Stmt-F Part → Part
stmt_step names at (Stmt-F.Let n p r) = record {
  points = right_points r;
  lines = λ depth point. own_line depth (let_text names n r) ∷ right_lines at r depth point;
}
stmt_step names at (Stmt-F.Assign n p r) = record {
  points = right_points r;
  lines = λ depth point. own_line depth (assignment_text names n r) ∷ right_lines at r depth point;
}
stmt_step names at (Stmt-F.Perform call) = record {
  points = 1;
  lines = λ depth point. own_line depth (call_line_text names call) ∷ point_line at depth
      point ∷ [];
}
stmt_step names at (Stmt-F.Choose p cond first second) = choice_part names at cond first second
stmt_step names at (Stmt-F.Repeat p turns q n r body) = repeat_part names at turns n body
stmt_step names at (Stmt-F.Answer p values) = record {
  points = 0;
  lines = λ depth point. own_line depth (reply_text names values) ∷ [];
}

-- a statement, as its number of points and its lines
abbrev pub stmt_part : List (List ℕ) → At → Stmt → Part
stmt_part names at = fold-Stmt Part (stmt_step names at)

-- the statements of a block, each as its number of points and its lines
abbrev pub block_parts : List (List ℕ) → At → List Stmt → List Part
block_parts names at block = map (stmt_part names at) block

-- ---- files

abbrev pub head_text : List (List ℕ) → Handler → Text
head_text names h rest = codes "handler " ++ name_text names h.name (codes "("
    ++ listed (map (param_text names) h.params) (codes ") {\n" ++ rest))

-- A handler. Its entry is point 0.
abbrev pub handler_lines : List (List ℕ) → At → Handler → List Line
handler_lines names at h = of_file (head_text names h) ∷ (branch_lines at
    (block_parts names at h.body) 0 0 ++ (close_line 0 ∷ []))

-- handlers, of which the first has this number
abbrev pub handlers_lines : List (List ℕ) → AtPoints → ℕ → List Handler → List Line
handlers_lines names a n [] = []
handlers_lines names a n (h ∷ hs) = handler_lines names (point_text names a n) h ++ handlers_lines
    names a (n + 1) hs

-- the lines of a file: one for each table, then those of the handlers
abbrev pub file_lines : List (List ℕ) → AtPoints → File → List Line
file_lines names a file = map (λ (t : TableDecl). of_file (table_text names t))
    file.tables ++ handlers_lines names a 0 file.handlers

-- the text of a file with what stands at its points
abbrev pub shown_text : List (List ℕ) → AtPoints → File → List ℕ
shown_text names a file = written a.shown (file_lines names a file) []

-- ---- points

-- the points of lines, in their order
abbrev pub line_points : List Line → List ℕ
line_points [] = []
line_points (of_file t ∷ lines) = line_points lines
line_points (of_else t ∷ lines) = line_points lines
line_points (of_point n t ∷ lines) = n ∷ line_points lines

-- so many numbers, from this one on
abbrev pub count_on : (from count : ℕ) → List ℕ
count_on n zero = []
count_on n (suc k) = n ∷ count_on (n + 1) k
