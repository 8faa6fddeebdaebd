use Rattle.std.proofs.Common.{◌≡◌, map, take}
use Rattle.serde_json.specs.View.{view}
use Rattle.waiting_pairs.specs.Json.{wait_value}
use Rattle.waiting_pairs.proofs.json.wait_values.Given as goal

abbrev pub invariant-loop-wait : goal.invariant-loop-wait
invariant-loop-wait l = map view l.values.items ≡ map (wait_value l.names l.program.file l.text) (take l.wait-index l.waits)
