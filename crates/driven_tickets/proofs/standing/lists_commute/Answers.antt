use Rattle.std.specs.List.{AllByRecursion}
use Rattle.symbolic_ops.specs.declared.symbol.Symbol.{Symbol}
use Rattle.symbolic_ops.specs.Commuting.{SymbolsCommute}
use Rattle.driven_tickets.proofs.InTheWay.{all_next}
use Rattle.driven_tickets.proofs.standing.lists_commute.Goals as goal

pub loop-s-preserved : goal.loop-s-preserved
loop-s-preserved c =
    all_next (λ (x : Symbol). AllByRecursion (λ y. SymbolsCommute x y) c.args.other.now) c.args.list.now c.loop-s.s-index c.s-item.result c.loop-s-test.true c.s-item.is c.loop-s.invariant
    (c.commutes_with.ensures.0 c.if-not-commutes_with.false)
