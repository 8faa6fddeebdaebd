-- A request that is sent keeps the rule.
use Rattle.std.proofs.Common.{◌≡◌, ◌<◌, ap, sym, arith}
use Rattle.client_feed.specs.declared.rule.Hand.{Hand}
use Rattle.client_feed.specs.Ends.{FeederView}
use Rattle.client_feed.specs.Passes.{knows}
use Rattle.client_feed.proofs.Feeding.{sends, learns}
use Rattle.client_feed.proofs.feeder.Feeder.send_next.Goals as goal

pub send_as-requires-clause-rule : goal.send_as-requires-clause-rule
send_as-requires-clause-rule g c =
    let is = c.self.invariant.1 in
    let sent : (knows c.self.inside.pass).sent ≡ c.self.inside.sent = ap (λ (h : Hand). h.sent) is in
    let count : (knows c.self.inside.pass).count ≡ c.self.inside.count = ap (λ (h : Hand). h.count) is in
    let own_sent : c.self.inside.sent ≡ c.args.self.now.sent = ap (λ (f : FeederView). f.sent) c.self.view_is in
    let own_count : c.self.inside.count ≡ c.args.self.now.count = ap (λ (f : FeederView). f.count) c.self.view_is in
    let short : (knows c.self.inside.pass).sent < (knows c.self.inside.pass).count = omega (arith, sent, count, own_sent, own_count, c.requires) in (
      sends _ _ (knows c.self.inside.pass) _ (ap (λ (h : Hand). h.sends) is) short (sym (ap (λ (h : Hand). h.client) is)) (sym sent),
      learns _ _,
    )
