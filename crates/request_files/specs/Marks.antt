-- What the line of each mark says, and where the first one stands. Only functions within the crate
-- cite this file.
use Rattle.std.specs.Prelude.{◌≡◌, ℕ, ◌+◌, ◌≤◌, Bool, length, min, IsUtf8, IsCharBoundary}
use Rattle.std.specs.List.{list_any}
use Rattle.text_lines.specs.Text.{Text, lines}
use Rattle.request_files.specs.declared.mark.Mark.{Mark}
use Rattle.request_files.specs.declared.mark.Mark.TheVariants.{Dividing, Tables, Any, Trace}
use Rattle.request_files.specs.declared.mark_place.MarkPlace.{MarkPlace}
use Rattle.request_files.specs.Divide.{is_dividing, is_table_mark, is_mark, head_size, mark_size, line_behind}
use Rattle.request_files.specs.TracePart.{is_trace_mark}

-- what a mark's line says
abbrev pub says : Mark → Text → Bool
says Dividing = is_dividing
says Tables = is_table_mark
says Any = is_mark
says Trace = is_trace_mark

-- a place with these parts
abbrev pub place : Bool → ℕ → ℕ → ℕ → MarkPlace
place found front rest next = record { found = found; front = front; rest = rest; next = next }

-- the place of the first of these lines: where there is none, all stands before it
pub record IsPlace (is : Text → Bool) (text : Text) (p : MarkPlace) : Type 0 where
  pub found : p.found ≡ list_any is (lines text)
  pub front : p.front ≡ min (head_size is (lines text)) (length text)
  pub rest : p.rest ≡ min (mark_size is (lines text)) (length text)
  pub next : p.next ≡ line_behind is text
  pub few : p.next ≤ length text + 2
  pub order : p.front ≤ p.rest
  pub edges : IsUtf8 text → IsCharBoundary text p.front × IsCharBoundary text p.rest
