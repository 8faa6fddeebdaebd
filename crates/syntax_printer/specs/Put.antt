-- What is put at a spot: the lines of a part of a handler, where its declarations are given. Only
-- this crate's own functions cite it.
use Rattle.std.specs.Prelude.{ℕ, List}
use Rattle.syntax_trees.specs.declared.stmt.Cond.{Cond}
use Rattle.syntax_trees.specs.declared.stmt.Right.{Right}
use Rattle.syntax_trees.specs.declared.stmt.Stmt.{Stmt}
use Rattle.syntax_trees.specs.declared.file.Handler.{Handler}
use Rattle.syntax_printer.specs.declared.spot.Spot.{Spot}
use Rattle.syntax_printer.specs.Points.{AtPoints, point_text}
use Rattle.syntax_printer.specs.Lines.{At, Part, line_text, written, block_lines, block_parts, branch_lines, choice_part, handler_lines, handlers_lines, point_line, repeat_part, right_lines, stmt_part}
use Rattle.syntax_printer.specs.Writing.{Text}

abbrev pub at_of : List (List ℕ) → AtPoints → Spot → At
at_of names a spot = point_text names a spot.handler

-- the parts of a block of the handler
abbrev pub parts_of : List (List ℕ) → AtPoints → Spot → List Stmt → List Part
parts_of names a spot block = block_parts names (at_of names a spot) block

abbrev pub put_point_text : List (List ℕ) → AtPoints → Spot → Text
put_point_text names a spot = line_text a.shown
    (point_line (at_of names a spot) spot.depth spot.point)

abbrev pub put_right_text : List (List ℕ) → AtPoints → Spot → Right → Text
put_right_text names a spot r = written a.shown
    (right_lines (at_of names a spot) r spot.depth spot.point)

abbrev pub put_part_text : AtPoints → Spot → Part → Text
put_part_text a spot part = written a.shown (part.lines spot.depth spot.point)

abbrev pub put_block_text : List (List ℕ) → AtPoints → Spot → List Stmt → Text
put_block_text names a spot block = written a.shown
    (block_lines (parts_of names a spot block) spot.depth spot.point)

abbrev pub put_branch_text : List (List ℕ) → AtPoints → Spot → List Stmt → Text
put_branch_text names a spot block = written a.shown
    (branch_lines (at_of names a spot) (parts_of names a spot block) spot.depth spot.point)

-- the part that a statement is at a spot
abbrev pub part_at : List (List ℕ) → AtPoints → Spot → Stmt → Part
part_at names a spot s = stmt_part names (at_of names a spot) s

abbrev pub choice_at : List (List ℕ) → AtPoints → Spot → Cond → List Stmt → List Stmt → Part
choice_at names a spot cond first second = choice_part names (at_of names a spot) cond
    (parts_of names a spot first) (parts_of names a spot second)

abbrev pub repeat_at : List (List ℕ) → AtPoints → Spot → (turns name : ℕ) → List Stmt → Part
repeat_at names a spot turns n body = repeat_part names (at_of names a spot) turns n
    (parts_of names a spot body)

-- the handler of this number, and handlers from this number on
abbrev pub put_handler_text : List (List ℕ) → AtPoints → ℕ → Handler → Text
put_handler_text names a n h = written a.shown (handler_lines names (point_text names a n) h)

abbrev pub put_handlers_text : List (List ℕ) → AtPoints → ℕ → List Handler → Text
put_handlers_text names a n hs = written a.shown (handlers_lines names a n hs)
