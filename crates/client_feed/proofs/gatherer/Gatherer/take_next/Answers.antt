-- An arrival that is taken keeps the rule.
use Rattle.std.proofs.Common.{◌≡◌, ◌+◌, ◌∷◌, [], length, length-append, sum, ap, sym, ◌∙◌, subst, arith}
use Rattle.client_feed.specs.declared.rule.Hand.{Hand}
use Rattle.reply_sheet.specs.Arrivals.{IsDrawn}
use Rattle.client_feed.specs.Ends.{GathererView}
use Rattle.client_feed.specs.Passes.{knows}
use Rattle.client_feed.proofs.Feeding.{takes, learns}
use Rattle.client_feed.proofs.gatherer.Gatherer.take_next.Goals as goal

pub recv_as-requires-clause-rule : goal.recv_as-requires-clause-rule
recv_as-requires-clause-rule g c = (takes _ (knows c.self.inside.pass) c.self.invariant.1, learns _ _)

pub invariant_of-self : goal.invariant_of-self
invariant_of-self g c =
    let is = c.in-Ok.ensures.rule.is in
    let P : Hand → Type 0 = λ h. IsDrawn h.counts h.got in
    let long : length (knows c.recv_as.new.pass).got ≡ length (knows c.self.inside.pass).got + 1 = ap (λ (h : Hand). length h.got) is ∙ length-append (knows c.self.inside.pass).got (c.in-Ok.next ∷ []) in
    let same : sum (knows c.recv_as.new.pass).counts ≡ sum (knows c.self.inside.pass).counts = ap (λ (h : Hand). sum h.counts) is in
    let got : length (knows c.self.inside.pass).got ≡ length c.args.self.now.got = ap (λ (g : GathererView). length g.got) c.self.view_is in
    let counts : sum (knows c.self.inside.pass).counts ≡ sum c.args.self.now.counts = ap (λ (g : GathererView). sum g.counts) c.self.view_is in (
      c.in-Ok.ensures.channel.0,
      ap (λ (h : Hand). h.gets) is,
      subst P (sym is) c.in-Ok.ensures.rule.drawn,
      omega (arith, long, same, got, counts, c.self.invariant.3, c.requires),
      omega (arith, same, c.self.invariant.4),
    )

pub invariant_of-self-in-Err : goal.invariant_of-self-in-Err
invariant_of-self-in-Err g c =
    let is = c.in-Err.ensures.rule.0 in
    let P : Hand → Type 0 = λ h. IsDrawn h.counts h.got in
    let long : length (knows c.recv_as.new.pass).got ≡ length (knows c.self.inside.pass).got = ap (λ (h : Hand). length h.got) is in
    let same : sum (knows c.recv_as.new.pass).counts ≡ sum (knows c.self.inside.pass).counts = ap (λ (h : Hand). sum h.counts) is in (
      c.in-Err.ensures.channel.0,
      ap (λ (h : Hand). h.gets) is ∙ c.self.invariant.1,
      subst P (sym is) c.self.invariant.2,
      omega (arith, long, same, c.self.invariant.3),
      omega (arith, same, c.self.invariant.4),
    )
