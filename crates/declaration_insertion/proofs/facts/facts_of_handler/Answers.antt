use Rattle.std.proofs.Common.{◌≡◌, ℕ, ◌+◌, ◌-◌, [], ◌∷◌, length, length-append, ap, subst, arith}
use Rattle.std.specs.Prelude.{slice_index_or}
use Rattle.declaration_insertion.specs.Facts.{HasFacts, IsAlike, no_facts}
use Rattle.declaration_insertion.specs.Promises.{listed}
use Rattle.declaration_insertion.specs.declared.facts.PointFacts.{PointFacts}
use Rattle.declaration_insertion.proofs.FactLemmas.{alike_first, more_read}
use Rattle.declaration_insertion.proofs.facts.facts_of_handler.Goals as goal

pub loop-point-init : goal.loop-point-init
loop-point-init c = record {
  count = ap length c.in_ok-facts.ensures.items;
  alike = alike_first (listed (slice_index_or c.args.later.now c.args.h []));
  each = λ p lt. absurd (omega (arith, lt));
}

pub loop-point-preserved : goal.loop-point-preserved
loop-point-preserved c =
    let declared = listed (slice_index_or c.args.later.now c.args.h []) in
    let before = c.loop-point.facts.items in
    let found = c.facts_at-found.result in
    let n = c.loop-point.point in
    let back : n ≡ n + 1 - 1 = omega arith in
    record {
      count = omega (arith, ap length c.in_ok-push.ensures.items, length-append before (found ∷ []), c.loop-point.invariant.count);
      alike = subst (λ (m : ℕ). IsAlike declared c.alike_at-alike.result m) back c.alike_at-alike.ensures;
      each = more_read (λ k (f : PointFacts). HasFacts declared k f) no_facts before c.push.new.self.items found n c.loop-point.invariant.count c.in_ok-push.ensures.items c.loop-point.invariant.each c.facts_at-found.ensures;
    }
