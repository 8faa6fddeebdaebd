use Rattle.std.proofs.Common.{get_or}
use Rattle.std.proofs.lemmas.List.{get_or_default}
use Rattle.serde_json.specs.View.{view}
use Rattle.waiting_pairs.specs.CountJson.{ticket_value}
use Rattle.waiting_pairs.proofs.Mapped.{viewed_more}
use Rattle.waiting_pairs.proofs.count_json.chain_value.Goals as goal

pub loop-ticket-preserved : goal.loop-ticket-preserved
loop-ticket-preserved c =
    let t = get_or c.args.chain.now c.loop-ticket.ticket-index 0 in
    viewed_more view ticket_value c.args.chain.now c.loop-ticket.ticket-index t c.loop-ticket.values.items c.push.new.self.items c.from.result c.loop-ticket-test.true
    (get_or_default c.args.chain.now c.loop-ticket.ticket-index 0 t c.loop-ticket-test.true) c.in_ok-push.ensures.items c.from.ensures c.loop-ticket.invariant
