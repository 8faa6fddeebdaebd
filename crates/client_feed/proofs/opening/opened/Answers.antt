-- The gatherer is told the numbers, and each feeder has its own from there.
use Rattle.std.proofs.Common.{sym, subst, suc, []}
use Rattle.crossbeam_channel.specs.Fifo.{Forks}
use Rattle.client_feed.specs.declared.rule.Hand.{Hand}
use Rattle.reply_sheet.specs.Arrivals.{count_at}
use Rattle.client_feed.specs.Feeding.{Feeds, feeder, gatherer, idle}
use Rattle.client_feed.proofs.Feeding.{begins, is_told, next_made}
use Rattle.client_feed.proofs.opening.opened.Goals as goal

pub bounded_with-requires-clause-rule : goal.bounded_with-requires-clause-rule
bounded_with-requires-clause-rule g c = begins

pub another-spare-requires-clause-rule : goal.another-spare-requires-clause-rule
another-spare-requires-clause-rule g c =
    let P : Hand → Type 0 = λ v. Forks Feeds c.in_ok-sender.pass.id v (gatherer 0 [] g.K.Counted.counts) idle in
    subst P (sym c.in_ok-sender.ensures.3) (is_told c.in_ok-sender.pass.id g.K.Counted.counts)

pub another-next-requires-clause-rule : goal.another-next-requires-clause-rule
another-next-requires-clause-rule g c =
    let id = c.loop-client.pass.id in
    let P : Hand → Type 0 = λ v. Forks Feeds id v (gatherer (suc v.made) v.got v.counts) (feeder v.made 0 (count_at v.counts v.made)) in
    subst P (sym c.loop-client.invariant.view_is) (next_made id c.loop-client.client c.args.counts.now)
