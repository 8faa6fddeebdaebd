use Rattle.std.proofs.Common.{◌≡◌, ℕ, length, subst, arith}
use Rattle.waiting_pairs.specs.Steps.{IsSettled}
use Rattle.waiting_pairs.proofs.Settled.{settled_behind}
use Rattle.waiting_pairs.proofs.table.table_of.Goals as goal

pub loop-link-preserved : goal.loop-link-preserved
loop-link-preserved c =
    settled_behind c.args.tickets c.args.links.now c.requires.links c.requires.sorted c.loop-link.link-index _ c.loop-link-test.true c.loop-link.table.items c.deref_mut.result.now c.raise.new.table c.loop-link.table.len
    c.deref_mut.ensures.value c.raise.ensures c.loop-link.table.ok.0 c.loop-link.invariant

pub returns-clause-settled : goal.returns-clause-settled
returns-clause-settled c =
    let e : c.loop-link.link-index ≡ length c.args.links.now = omega arith in
    subst (λ (i : ℕ). IsSettled c.args.links.now i c.loop-link.table.items) e c.loop-link.invariant.1
