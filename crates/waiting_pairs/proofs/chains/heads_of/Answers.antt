use Rattle.std.proofs.Common.{◌≡◌, ℕ, ◌+◌, length, true, false, sym, ap, ◌∙◌, subst, arith}
use Rattle.waiting_pairs.specs.Heads.{AreHeads, is_due}
use Rattle.waiting_pairs.proofs.Heads.{due_pushed, due_skipped, no_heads}
use Rattle.waiting_pairs.proofs.chains.heads_of.Goals as goal
use Rattle.waiting_pairs.proofs.chains.heads_of.Goals.{then-is_due+in_ok-push, else-is_due}

pub loop-t-init : goal.loop-t-init
loop-t-init c = no_heads c.args.table.now c.args.most c.new-heads.result.items c.new-heads.ensures.items

pub loop-t-preserved : goal.loop-t-preserved
loop-t-preserved c =
    elim c.if-is_due.branch [
      | then-is_due+in_ok-push w ↦
          let e : is_due c.args.table.now c.loop-t.t c.args.most c.loop-t.heads.items ≡ true = cc in
          due_pushed c.args.table.now c.args.most c.loop-t.t c.loop-t.heads.items c.loop-t.invariant c.if-is_due.heads.items e (ap (λ v. v.items) w.heads-is ∙ w.in_ok-push.ensures.items)
      | else-is_due w ↦
          let e : is_due c.args.table.now c.loop-t.t c.args.most c.loop-t.heads.items ≡ false = cc in
          subst (AreHeads c.args.table.now c.args.most (c.loop-t.t + 1)) (sym (ap (λ v. v.items) w.heads-is)) (due_skipped c.args.table.now c.args.most c.loop-t.t c.loop-t.heads.items c.loop-t.invariant e)
    ]

pub returns : goal.returns
returns c =
    let e : c.loop-t.t ≡ length c.args.table.now = omega arith in
    subst (λ (i : ℕ). AreHeads c.args.table.now c.args.most i c.loop-t.heads.items) e c.loop-t.invariant
