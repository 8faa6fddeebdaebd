-- Rows place few names.
use Rattle.std.proofs.Common.{ℕ, ◌+◌, ◌≤◌, List, [], ◌∷◌, length, ap, arith}
use Rattle.text_lines.specs.Rows.{Row, row_before, rows, names_behind}
use Rattle.text_lines.specs.Text.{Text, lines, words}
use Rattle.text_lines.specs.Values.{placed, placed_all}
use Rattle.text_lines.proofs.RowLemmas.{behind_nil, behind_step}
use Rattle.text_lines.proofs.TextLemmas.{total, total_le}
use Rattle.trace_lines.specs.EventRows.{names_after, placed_literal, placed_literals}
use Rattle.trace_lines.proofs.Placed.{after_nil, after_step, literal_length, literals_nil, literals_step}
use Rattle.text_lines.proofs.ValueLemmas.{placed_all_nil, placed_all_step, placed_length}

-- the words behind the first of each row
abbrev pub args_total : List Row → ℕ
args_total [] = 0
args_total (r ∷ rs) = length r.args + args_total rs

row_total : (n : ℕ) (ws : List Text) (rs : List Row) → args_total (row_before n ws rs) ≤ length ws + args_total rs
row_total n [] rs = omega arith
row_total n (w ∷ ws) rs = omega arith

rows_total : (n : ℕ) (ls : List Text) → args_total (rows n ls) ≤ total ls
unfolding rows
rows_total n [] = omega arith
rows_total n (l ∷ ls) = omega (arith, row_total n (words l) (rows (n + 1) ls), rows_total (n + 1) ls)

pub text_total : (n : ℕ) (text : Text) → args_total (rows n (lines text)) ≤ length text
text_total n text = omega (arith, rows_total n (lines text), total_le text)

pub placed_room : (names ws : List Text) → length (placed_all names ws) ≤ length names + length ws
placed_room names [] = omega (arith, ap length (placed_all_nil names))
placed_room names (w ∷ ws) = omega (arith, ap length (placed_all_step names w ws), placed_room (placed names w) ws, placed_length names w)

pub behind_room : (names : List Text) (rs : List Row) → length (names_behind names rs) ≤ length names + args_total rs
behind_room names [] = omega (arith, ap length (behind_nil names))
behind_room names (r ∷ rs) = omega (arith, ap length (behind_step names r rs), behind_room (placed_all names r.args) rs, placed_room names r.args)

-- no line is more than one row
few_before : (n : ℕ) (ws : List Text) (rs : List Row) → length (row_before n ws rs) ≤ 1 + length rs
few_before n [] rs = omega arith
few_before n (w ∷ ws) rs = omega arith

pub rows_few : (n : ℕ) (ls : List Text) → length (rows n ls) ≤ length ls
unfolding rows
rows_few n [] = omega arith
rows_few n (l ∷ ls) = omega (arith, few_before n (words l) (rows (n + 1) ls), rows_few (n + 1) ls)

-- ---- the names behind the lines of a trace part

literals_room : (names ws : List Text) → length (placed_literals names ws) ≤ length names + length ws
literals_room names [] = omega (arith, ap length (literals_nil names))
literals_room names (w ∷ ws) = omega (arith, ap length (literals_step names w ws), literals_room (placed_literal names w) ws, literal_length names w)

pub after_room : (names : List Text) (rs : List Row) → length (names_after names rs) ≤ length names + args_total rs
after_room names [] = omega (arith, ap length (after_nil names))
after_room names (r ∷ rs) = omega (arith, ap length (after_step names r rs), after_room (placed_literals names r.args) rs, literals_room names r.args)
