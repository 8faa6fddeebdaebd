use Rattle.std.proofs.Common.{◌≡◌, Bool, true, false, if◌then◌else◌, List, ◌+◌, take, Contains, not, sym, ap, subst, ◌∙◌, arith}
use Rattle.indexmap.specs.IndexSet.{contains}
use Rattle.symbolic_ops.specs.declared.symbol.Symbol.{Symbol}
use Rattle.waiting_pairs.specs.declared.sought.Sought.{Sought}
use Rattle.waiting_pairs.specs.Chosen.{AreAmong}
use Rattle.waiting_pairs.specs.Sought.{is_sought}
use Rattle.waiting_pairs.proofs.ChosenLists.{all_nil, among_all, among_again, among_new, none_seen, seen_again, seen_new, was_there}
use Rattle.waiting_pairs.proofs.known.ops_of.Goals as goal
use Rattle.waiting_pairs.proofs.known.ops_of.Goals.{then-new+in_ok-push, else-new}

pub loop-a-preserved : goal.loop-a-preserved
loop-a-preserved c =
    let key : Sought = record { symbol = c.a-item.result.op } in
    let has : Sought → Bool = contains is_sought c.loop-a.seen in
    let after : Sought → Bool = contains is_sought c.insert.new.self in
    let ops : List Symbol = c.loop-a.ops.items in
    let inv = c.loop-a.invariant in
    let step : (q : Sought) → after q ≡ (if is_sought key q then true else has q) = c.in_ok-new.ensures.updates.0 in
    elim c.if-new.branch [
      | then-new+in_ok-push w ↦ subst (λ v. ((q : Sought) → after q ≡ true → Contains v.items q.symbol) × AreAmong v.items (take (c.loop-a.a-index + 1) c.args.asked.now)) (sym w.ops-is)
          (seen_new ops w.push.new.self.items key has after step inv.0 w.in_ok-push.ensures.items, among_new ops w.push.new.self.items c.args.asked.now c.loop-a.a-index c.a-item.result c.loop-a-test.true c.a-item.is inv.1 w.in_ok-push.ensures.items)
      | else-new w ↦
          let there : has key ≡ true = was_there (has key) c.in_ok-new.new c.in_ok-new.ensures.added w.if-new.false in
          subst (λ v. ((q : Sought) → after q ≡ true → Contains v.items q.symbol) × AreAmong v.items (take (c.loop-a.a-index + 1) c.args.asked.now)) (sym w.ops-is)
          (seen_again ops key has after step inv.0 there, among_again ops c.args.asked.now c.loop-a.a-index c.a-item.result c.loop-a-test.true c.a-item.is inv.1 (inv.0 key there))
    ]

pub loop-a-init : goal.loop-a-init
loop-a-init c = (λ q h. absurd (none_seen q c.new-seen.result.keys c.new-seen.ensures.empty h), all_nil (λ a. Contains c.new-ops.result.items a.op))

pub returns : goal.returns
returns c = among_all c.loop-a.ops.items c.args.asked.now c.loop-a.a-index (omega (arith, c.loop-a-test.false)) c.loop-a.invariant.1
