use Rattle.std.proofs.Common.{◌≡◌, map, string_bytes, take}
use Rattle.serde_json.specs.View.{view}
use Rattle.refusal_advice.specs.Json.{line_value}
use Rattle.refusal_advice.proofs.json.line_values.Given as goal

-- the values of the lines before the index
abbrev pub invariant-loop-line : goal.invariant-loop-line
invariant-loop-line l = map view l.values.items ≡ map line_value (map string_bytes (take l.line-index l.lines))
