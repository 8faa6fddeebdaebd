use Rattle.std.proofs.Common.{◌≡◌, map, take}
use Rattle.serde_json.specs.View.{view}
use Rattle.waiting_pairs.specs.CountJson.{ticket_value}
use Rattle.waiting_pairs.proofs.count_json.chain_value.Given as goal

abbrev pub invariant-loop-ticket : goal.invariant-loop-ticket
invariant-loop-ticket l = map view l.values.items ≡ map ticket_value (take l.ticket-index l.chain)
