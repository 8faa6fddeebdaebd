-- What is left, and that what arrived is in order.
use Rattle.std.proofs.Common.{subst}
use Rattle.reply_sheet.specs.Arrivals.{IsDrawn}
use Rattle.client_feed.specs.Ends.{GathererView}
use Rattle.client_feed.proofs.gatherer.Gatherer.left.Goals as goal

pub returns-clause-drawn : goal.returns-clause-drawn
returns-clause-drawn c =
    let P : GathererView → Type 0 = λ g. IsDrawn g.counts g.got in
    subst P c.self.view_is c.self.invariant.2
