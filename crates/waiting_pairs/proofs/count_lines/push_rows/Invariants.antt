use Rattle.std.proofs.Common.{◌≡◌, ◌++◌, take, string_bytes}
use Rattle.std.specs.List.{flat_map}
use Rattle.waiting_pairs.specs.CountLines.{line}
use Rattle.waiting_pairs.proofs.count_lines.push_rows.Given as goal

abbrev pub invariant-loop-row : goal.invariant-loop-row
invariant-loop-row l = string_bytes l.out ≡ string_bytes l.fn.out ++ flat_map (line l.names l.program.file) (take l.row-index l.rows)
