use Rattle.std.proofs.Common.{◌≡◌, map, take}
use Rattle.serde_json.specs.View.{view}
use Rattle.waiting_pairs.specs.CountJson.{row_value}
use Rattle.waiting_pairs.proofs.count_json.row_values.Given as goal

abbrev pub invariant-loop-row : goal.invariant-loop-row
invariant-loop-row l = map view l.values.items ≡ map (row_value l.names l.program.file) (take l.row-index l.rows)
