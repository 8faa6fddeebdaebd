use Rattle.std.proofs.Common.{sym, ap, ◌∙◌}
use Rattle.symbolic_ops.specs.declared.symbol.Symbol.{Symbol}
use Rattle.waiting_pairs.proofs.Apart.{of_two_keys, of_two_tables}
use Rattle.waiting_pairs.proofs.delaying.delays.Goals as goal
use Rattle.waiting_pairs.proofs.delaying.delays.Goals.{then-s-o-via-then-s-o, then-s-o-via-else-s-o+then-have_other_keys}

pub returns-then-s-o : goal.returns-then-s-o
returns-then-s-o c =
    elim c.then-s-o.branch [
      | then-s-o-via-then-s-o w ↦ of_two_tables c.args.s.now c.args.o.now
          (λ e. w.if-s-o.true (ap (λ (z : Symbol). z.table) c.s.view_is ∙ e ∙ sym (ap (λ (z : Symbol). z.table) c.o.view_is)))
      | then-s-o-via-else-s-o+then-have_other_keys w ↦ of_two_keys c.args.s.now c.args.o.now (w.have_other_keys.ensures w.if-have_other_keys.true)
    ]
