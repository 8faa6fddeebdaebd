use Rattle.std.proofs.Common.{◌≡◌, ap, sym, subst, ◌∙◌, take, ◌+◌}
use Rattle.waiting_pairs.specs.Chosen.{Chosen}
use Rattle.waiting_pairs.proofs.ChosenLists.{chosen_hit, chosen_miss}
use Rattle.waiting_pairs.proofs.known.chosen_of.Goals as goal
use Rattle.waiting_pairs.proofs.known.chosen_of.Goals.{then-delays+in_ok-push, else-delays}

pub loop-a-preserved : goal.loop-a-preserved
loop-a-preserved c =
    elim c.if-delays.branch [
      | then-delays+in_ok-push w ↦ subst (λ v. Chosen c.args.symbol.now (take (c.loop-a.a-index + 1) c.args.asked.now) v.items) (sym w.found-is)
          (chosen_hit c.args.symbol.now c.args.asked.now c.loop-a.a-index c.a-item.result c.loop-a.found.items w.push.new.self.items c.delays.result c.loop-a-test.true c.a-item.is w.if-delays.true c.delays.ensures c.loop-a.invariant w.in_ok-push.ensures.items)
      | else-delays w ↦ subst (λ v. Chosen c.args.symbol.now (take (c.loop-a.a-index + 1) c.args.asked.now) v.items) (sym w.found-is)
          (chosen_miss c.args.symbol.now c.args.asked.now c.loop-a.a-index c.a-item.result c.loop-a.found.items c.delays.result c.loop-a-test.true c.a-item.is w.if-delays.false c.delays.ensures c.loop-a.invariant)
    ]
